-- Records of names compared byte by byte, up to their lengths: up to a place the names are the same, and what is left
-- of them says the rest.
use Rattle.std.specs.Prelude.{ℕ, ◌+◌, ◌≤◌, ◌<◌, min, ◌≡◌, refl, Bool, true, false, not}
use Rattle.std.specs.Prelude.{◌&&◌, ◌||◌, List, map, eqb, ltb, length, take, drop, get_or}
use Rattle.std.proofs.Common.{arith, sym, ap, ◌∙◌, length-take, get_or-take, ltb-true, eq-eqb}
use Rattle.std.proofs.Math.Bool.{or-false}
use Rattle.std.proofs.lemmas.List.{length-map}
use Rattle.hnsr_circuit.specs.declared.peer.HnsrPeerId.{HnsrPeerId}
use Rattle.hns_encoding.specs.Laws.Tests.{split, both, clash}
use Rattle.hnsr_circuit.specs.Peer.{maximum_peer, peer_length, peer_bytes, same_bytes, same_peer}
use Rattle.hnsr_circuit.specs.Laws.Peer.{same_names, bytes-step, bytes_end}

-- a record's bytes, as a parameter that is one is known to have them
pub whole : (p : HnsrPeerId) → length (map (λ (b : ℕ). b) p.bytes) ≡ maximum_peer → length p.bytes ≡ maximum_peer
whole p h = sym (length-map p.bytes (λ (b : ℕ). b)) ∙ h

-- they hold its name
name-length : (p : HnsrPeerId) → length p.bytes ≡ maximum_peer → length (peer_bytes p) ≡ peer_length p
unfolding peer_bytes
name-length p h = simp length-take (omega arith)

name-at : (p : HnsrPeerId) (i : ℕ) → i < peer_length p → get_or (peer_bytes p) i 0 ≡ get_or p.bytes i 0
unfolding peer_bytes
name-at p i l = rw get_or-take

module _ (p q : HnsrPeerId) (hp : length p.bytes ≡ maximum_peer) (hq : length q.bytes ≡ maximum_peer) where
  -- names of two lengths
  pub lengths_differ : (peer_length p ≡ peer_length q → ⊥) → false ≡ same_peer p q
  lengths_differ d = split (same_peer p q)
      (λ e. absurd (d (sym (name-length p hp) ∙ ap length (same_names p q e) ∙ name-length q hq)))
      (λ e. sym e)

  module _ (n i : ℕ) (r : Bool) (ep : n ≡ peer_length p) (eq : n ≡ peer_length q)
      (h : same_bytes (drop i (peer_bytes p)) (drop i (peer_bytes q)) ≡ r) where
    at_place : i < n
        → (eqb (get_or p.bytes i 0) (get_or q.bytes i 0)
        && same_bytes (drop (i + 1) (peer_bytes p)) (drop (i + 1) (peer_bytes q))) ≡ r
    at_place l =
        let a = name-length p hp in
        let b = name-length q hq in
        rw (← (name-at p i (omega arith)), ← (name-at q i (omega arith)))
        (sym (bytes-step (peer_bytes p) (peer_bytes q) i (omega arith) (omega arith)) ∙ h)

    pub names-agree : i < n → eqb (get_or p.bytes i 0) (get_or q.bytes i 0) ≡ true
        → same_bytes (drop (i + 1) (peer_bytes p)) (drop (i + 1) (peer_bytes q)) ≡ r
    names-agree l e = rw e at (at_place l)

    pub names-differ : i < n → eqb (get_or p.bytes i 0) (get_or q.bytes i 0) ≡ false → false ≡ r
    names-differ l e = rw e at (at_place l)

    pub names_end : n ≤ i → true ≡ r
    names_end l =
        let a = name-length p hp in
        let b = name-length q hq in
        sym (bytes_end (peer_bytes p) (peer_bytes q) i (omega arith) (omega arith)) ∙ h

-- a byte within the names that differs tells them apart
pub byte_differs : (p q : HnsrPeerId) (n k : ℕ) → n ≡ peer_length p → n ≡ peer_length q
    → (ltb k n && not (eqb (get_or p.bytes k 0) (get_or q.bytes k 0))) ≡ true → same_peer p q ≡ false
byte_differs p q n k ep eq t =
    let s = both (ltb k n) (not (eqb (get_or p.bytes k 0) (get_or q.bytes k 0))) t in
    let l = ltb-true k n s.0 in
    split (same_peer p q)
    (λ e. let at = sym (name-at p k (omega arith))
    ∙ ap (λ (name : List ℕ). get_or name k 0) (same_names p q e)
    ∙ name-at q k (omega arith) in
    clash s.1 (rw (eq-eqb (get_or p.bytes k 0) (get_or q.bytes k 0) at)))
    (λ e. e)

-- ---- byte by byte, all of them: whether one differs so far, or one of those that are left
join : (d e s : Bool) → ((d || not e) || not s) ≡ (d || not (e && s))
join true e s = refl
join false true s = refl
join false false s = refl

module _ (p q : HnsrPeerId) (hp : length p.bytes ≡ maximum_peer) (hq : length q.bytes ≡ maximum_peer) (n i : ℕ)
    (ep : n ≡ peer_length p) (eq : n ≡ peer_length q) (d r : Bool)
    (h : (d || not (same_bytes (drop i (peer_bytes p)) (drop i (peer_bytes q)))) ≡ r) where
  pub one_more_byte : i < n
      → ((d || not (eqb (get_or p.bytes i 0) (get_or q.bytes i 0)))
      || not (same_bytes (drop (i + 1) (peer_bytes p)) (drop (i + 1) (peer_bytes q)))) ≡ r
  one_more_byte l =
      let a = name-length p hp in
      let b = name-length q hq in
      let e = eqb (get_or p.bytes i 0) (get_or q.bytes i 0) in
      let rest = same_bytes (drop (i + 1) (peer_bytes p)) (drop (i + 1) (peer_bytes q)) in
      let here : (e && rest) ≡ same_bytes (drop i (peer_bytes p)) (drop i (peer_bytes q)) =
      rw (← (name-at p i (omega arith)), ← (name-at q i (omega arith)))
      (sym (bytes-step (peer_bytes p) (peer_bytes q) i (omega arith) (omega arith))) in
      join d e rest ∙ ap (λ (same : Bool). d || not same) here ∙ h

  pub no_more_bytes : n ≤ i → d ≡ r
  no_more_bytes l =
      let a = name-length p hp in
      let b = name-length q hq in
      sym (or-false d)
      ∙ ap (λ (same : Bool). d || not same)
      (sym (bytes_end (peer_bytes p) (peer_bytes q) i (omega arith) (omega arith)))
      ∙ h

-- ---- a length over the most is the most: two names of the clamped length are those of their own
pub clamped : (xs ys : List ℕ) (n m k : ℕ) → k ≡ min n maximum_peer → k ≡ min m maximum_peer
    → same_peer (record { len = k; bytes = xs }) (record { len = k; bytes = ys })
    ≡ same_peer (record { len = n; bytes = xs }) (record { len = m; bytes = ys })
unfolding same_peer peer_bytes
clamped xs ys n m k e f =
    let a : min k maximum_peer ≡ min n maximum_peer = omega arith in
    let b : min k maximum_peer ≡ min m maximum_peer = omega arith in
    ap (λ (l : ℕ). same_bytes (take l xs) (take (min k maximum_peer) ys)) a
    ∙ ap (λ (l : ℕ). same_bytes (take (min n maximum_peer) xs) (take l ys)) b
