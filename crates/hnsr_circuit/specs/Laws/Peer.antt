-- Laws of names: two peers are the same exactly where their names are equal, so sameness goes both ways and on.
use Rattle.std.specs.Prelude.{ℕ, ◌+◌, ◌≤◌, ◌<◌, ◌≡◌, ◌≢◌, refl, true, false, ◌&&◌, min, List, [], ◌∷◌}
use Rattle.std.specs.Prelude.{eqb, length, take, drop, get_or, replicate}
use Rattle.std.proofs.Common.{sym, ap, ◌∙◌, add-one, eqb-true, eq-eqb, drop_of_length-le, drop-cons}
use Rattle.std.proofs.lemmas.Bool.{false≢true}
use Rattle.std.specs.Cmp.{IsPartialEquivalence, IsEquivalence, equiv}
use Rattle.hnsr_circuit.specs.declared.peer.HnsrPeerId.{HnsrPeerId}
use Rattle.std.proofs.lemmas.List.{take_min}
use Rattle.hns_encoding.specs.Bytes.{padded}
use Rattle.hns_encoding.specs.Cursor.{written_at}
use Rattle.hns_encoding.specs.Laws.Tests.{split, both, clash}
use Rattle.hns_encoding.specs.Laws.Lists.{written_zeros}
use Rattle.hnsr_circuit.specs.Peer.{maximum_peer, peer_bytes, same_bytes, same_peer}

bytes-refl : (xs : List ℕ) → same_bytes xs xs ≡ true
unfolding same_bytes
bytes-refl [] = refl
bytes-refl (x ∷ xs) = rw (eq-eqb x x refl) (bytes-refl xs)

pub bytes_eq : (xs ys : List ℕ) → same_bytes xs ys ≡ true → xs ≡ ys
unfolding same_bytes
bytes_eq [] [] h = refl
bytes_eq [] (y ∷ ys) h = absurd (false≢true h)
bytes_eq (x ∷ xs) [] h = absurd (false≢true h)
bytes_eq (x ∷ xs) (y ∷ ys) h =
    let k = both (eqb x y) (same_bytes xs ys) h in
    rw (eqb-true x y k.0, bytes_eq xs ys k.1)

pub bytes_other : (xs ys : List ℕ) → xs ≢ ys → same_bytes xs ys ≡ false
bytes_other xs ys h = split (same_bytes xs ys) (λ e. absurd (h (bytes_eq xs ys e))) (λ e. e)

-- byte by byte, as a loop compares them
pub bytes-step : (xs ys : List ℕ) (i : ℕ) → i < length xs → i < length ys
    → same_bytes (drop i xs) (drop i ys)
    ≡ (eqb (get_or xs i 0) (get_or ys i 0) && same_bytes (drop (i + 1) xs) (drop (i + 1) ys))
unfolding same_bytes
bytes-step xs ys i k l = rw (add-one, drop-cons xs i 0 k, drop-cons ys i 0 l)

pub bytes_end : (xs ys : List ℕ) (i : ℕ) → length xs ≤ i → length ys ≤ i
    → same_bytes (drop i xs) (drop i ys) ≡ true
unfolding same_bytes
bytes_end xs ys i k l = rw (drop_of_length-le xs k, drop_of_length-le ys l)

pub ruleset bytewise = (bytes-step, bytes_end)

-- the stored form of a name of which as much is written as there is room for
pub stored_name : (name : List ℕ) (most : ℕ) → most ≡ min maximum_peer (length name)
    → written_at (replicate maximum_peer 0) 0 (take most name) ≡ padded maximum_peer (take maximum_peer name)
stored_name name most e =
    ap (λ (ys : List ℕ). written_at (replicate maximum_peer 0) 0 ys)
    (ap (λ (n : ℕ). take n name) e ∙ take_min maximum_peer name)
    ∙ written_zeros maximum_peer (take maximum_peer name)

pub same_refl : (p : HnsrPeerId) → same_peer p p ≡ true
unfolding same_peer
same_refl p = bytes-refl (peer_bytes p)

pub same_names : (p q : HnsrPeerId) → same_peer p q ≡ true → peer_bytes p ≡ peer_bytes q
unfolding same_peer
same_names p q h = bytes_eq (peer_bytes p) (peer_bytes q) h

pub names_same : (p q : HnsrPeerId) → peer_bytes p ≡ peer_bytes q → same_peer p q ≡ true
unfolding same_peer
names_same p q h = rw h (bytes-refl (peer_bytes q))

pub same_comm : (p q : HnsrPeerId) → same_peer p q ≡ same_peer q p
same_comm p q = split (same_peer p q)
    (λ e. e ∙ sym (names_same q p (sym (same_names p q e))))
    (λ e. split (same_peer q p) (λ f. clash (names_same p q (sym (same_names q p f))) e) (λ f. e ∙ sym f))

-- so names are compared as `==` has to be
same_trans : (p q r : HnsrPeerId) → same_peer p q ≡ true → same_peer q r ≡ true → same_peer p r ≡ true
same_trans p q r e f = names_same p r (same_names p q e ∙ same_names q r f)

pub same_partial : IsPartialEquivalence same_peer
same_partial = record { symm = same_comm; trans = same_trans }

pub same_equivalence : IsEquivalence same_peer
same_equivalence = equiv same_partial same_refl
