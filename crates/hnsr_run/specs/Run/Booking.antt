-- OPEN's ledger record: found, it stays; missing, it is made. And a draw that is found is neither taken nor zero.
use Rattle.std.specs.Prelude.{ℕ, ◌+◌, ◌≡◌, Bool, false, ◌&&◌, List, [], ◌∷◌, eqb, leb}
use Rattle.std.specs.Prelude.{Option, Some, None, is_none, unwrap_or}
use Rattle.std.proofs.Math.Path.{refl, sym, ap, subst}
use Rattle.std.proofs.Common.{◌∙◌}
use Rattle.std.proofs.Math.Bool.{true, cond}
use Rattle.std.proofs.lemmas.Bool.{false≢true}
use Rattle.std.proofs.Math.Dec.{ltb}
use Rattle.hns_encoding.specs.Laws.Tests.{split, choose, clash}
use Rattle.hns_encoding.specs.Sums.{non}
use Rattle.hnsr_body.specs.declared.values.ReservationId.{ReservationId}
use Rattle.hnsr_circuit.specs.declared.records.RelayTicket.{RelayTicket}
use Rattle.hnsr_circuit.specs.declared.records.ReservationUsage.{ReservationUsage}
use Rattle.hnsr_circuit.specs.Table.{any, pick, put}
use Rattle.hnsr_circuit.specs.Ledger.{no_usage, is_usage, usage_at, fresh_usage, booked, usage_of}
use Rattle.hnsr_circuit.specs.Draw.{draw_all}
use Rattle.hnsr_circuit.specs.Laws.Lookups.{pick-has, pick-none}
use Rattle.hnsr_circuit.specs.Laws.Keys.{reservation-refl}
use Rattle.hnsr_run.specs.Past.{Book, lives, anew, remade}
use Rattle.hnsr_run.specs.Run.Books.{Books, usage_looks, store_books}

-- what is found does not depend on the default
pick_default : {A : Type 0} (p : A → Bool) (d e : A) (t : List A) → any p t ≡ true → pick p d t ≡ pick p e t
pick_default p d e [] h = absurd (false≢true h)
pick_default p d e (x ∷ xs) h = split (p x) (λ u. rw u) (λ u. rw u (pick_default p d e xs (rw u at h)))

fresh_at : (t : RelayTicket) → usage_at t.reservation_id (fresh_usage t) ≡ true
unfolding usage_at
fresh_at t = reservation-refl t.reservation_id

module _ {ls : List ReservationUsage} {now : ℕ} {b : Book} (B : Books ls now b) (t : RelayTicket) where
  abbrev r : ReservationId
  r = t.reservation_id

  pub book-found : any (usage_at r) ls ≡ true → Books (booked t ls) now b
  unfolding booked
  book-found f =
      subst (λ (u : ReservationUsage). Books (put is_usage (usage_at r) u ls) now b)
      (pick_default (usage_at r) no_usage (fresh_usage t) ls f)
      (store_books B r (usage_of r ls) (put is_usage (usage_at r) (usage_of r ls) ls) b
      (usage_looks r (usage_of r ls) ls (pick-has (usage_at r) no_usage ls f) (λ x. clash f x))
      (λ i q. (refl, refl, refl)) (B.stands r) (B.known r f))

  pub book-made : any (usage_at r) ls ≡ false → any (non is_usage) ls ≡ true → ltb now t.expires_at ≡ true
      → Books (booked t ls) now (anew b t)
  unfolding booked
  book-made f space l =
      subst (λ (u : ReservationUsage). Books (put is_usage (usage_at r) u ls) now (anew b t))
      (sym (pick-none (usage_at r) (fresh_usage t) ls f))
      (store_books B r (fresh_usage t) (put is_usage (usage_at r) (fresh_usage t) ls) (anew b t)
      (usage_looks r (fresh_usage t) ls (fresh_at t) (λ x. space))
      (λ i q. (
        ap (λ x. cond x true (b.made i)) q,
        ap (λ x. cond x t.expires_at (b.due i)) q,
        ap (λ x. cond x 0 (b.spent i)) q,
      ))
      (λ e. record {
        expires = sym (ap (λ x. cond x t.expires_at (b.due r)) (reservation-refl r));
        bytes = sym (ap
            (λ x. cond x 0 (b.spent r)) (reservation-refl r));
      })
      (λ e. made-lives))
    where
      made-lives : lives now (anew b t) r ≡ true
      made-lives =
          ap (λ x. cond x true (b.made r) && ltb now (cond x t.expires_at (b.due r))) (reservation-refl r) ∙ l

-- the reservation lives after
pub lives-remade : (now : ℕ) (b : Book) (t : RelayTicket) → ltb now t.expires_at ≡ true
    → lives now (remade now b t) t.reservation_id ≡ true
lives-remade now b t l =
    choose (λ (x : Book). lives now x t.reservation_id ≡ true) (lives now b t.reservation_id) b (anew b t)
    (λ y. y)
    (λ y. ap (λ x.
    cond x true (b.made t.reservation_id) && ltb now (cond x t.expires_at (b.due t.reservation_id)))
    (reservation-refl t.reservation_id)
    ∙ l)

-- ---- draws
pub record Free (used : ℕ → Bool) (id : ℕ) : Type 0 where
  pub untaken : used id ≡ false
  pub some : eqb id 0 ≡ false

abbrev Drawn : (ℕ → Bool) → Option ℕ → Type 0
Drawn used d = is_none d ≡ false → Free used (unwrap_or d 0)

pub draw_free : (used : ℕ → Bool) (n m : ℕ) (ids : List ℕ) → Drawn used (draw_all used n m ids)
unfolding draw_all
draw_free used n m [] = λ e. absurd (false≢true (sym e))
draw_free used n m (id ∷ ids) =
    choose (Drawn used) (eqb id 0) _ _
    (λ z. choose (Drawn used) (leb 8 (n + 1)) None (draw_all used (n + 1) m ids) (λ l e. absurd (false≢true (sym e)))
    (λ l. draw_free used (n + 1) m ids))
    (λ z. choose (Drawn used) (used id) _ (Some id)
    (λ u. choose (Drawn used) (leb 8 (m + 1)) None (draw_all used 0 (m + 1) ids) (λ l e. absurd (false≢true (sym e)))
    (λ l. draw_free used 0 (m + 1) ids))
    (λ u e. record { untaken = u; some = z }))
