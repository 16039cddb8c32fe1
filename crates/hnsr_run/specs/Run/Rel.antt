-- The whole invariant between a world and what the events tell, and the changes that most calls are made of: the clock,
-- a refusal, records ended.
use Rattle.std.specs.Prelude.{ℕ, ◌≤◌, ◌<◌, ◌≡◌, refl, Bool, true, false, cond, Ok, Err}
use Rattle.std.specs.Prelude.{List, [], ◌∷◌, ◌++◌, ◌⊎◌, ltb, eqb, length}
use Rattle.std.proofs.Common.{arith, sym, ap, ◌∙◌, subst, true≢false, append-nil}
use Rattle.std.proofs.Common.{inl, inr, eqb-true, ltb-true, lt-ltb, ne_eqb}
use Rattle.hns_encoding.specs.Numbers.{top}
use Rattle.hns_encoding.specs.Laws.Tests.{split, clash, both, join}
use Rattle.hnsr_body.specs.declared.values.ReservationId.{ReservationId}
use Rattle.hnsr_body.specs.declared.error.HnsrInvalid.TheVariants.{ContextZero}
use Rattle.hnsr_body.specs.declared.error.HnsrProtocolError.TheVariants.{Invalid}
use Rattle.hnsr_circuit.specs.declared.peer.HnsrPeerId.{HnsrPeerId}
use Rattle.hnsr_circuit.specs.declared.config.OpaqueRelayConfig.{OpaqueRelayConfig}
use Rattle.hnsr_circuit.specs.declared.records.ReservationUsage.{ReservationUsage}
use Rattle.hnsr_circuit.specs.declared.answer.HnsrRuntimeError.{HnsrRuntimeError}
use Rattle.hnsr_circuit.specs.declared.answer.HnsrRuntimeError.TheVariants.{Protocol, Capacity, GenerationExhausted}
use Rattle.hnsr_circuit.specs.Answers.{HnsrAnswer, error_number, check, ◌then◌}
use Rattle.hnsr_circuit.specs.Table.{any}
use Rattle.hnsr_circuit.specs.Config.{config_good}
use Rattle.hnsr_circuit.specs.Peer.{same_peer}
use Rattle.hnsr_circuit.specs.Inflight.{tallied, capacity_left, capacity_answer}
use Rattle.hnsr_circuit.specs.World.{World, Outcome, config_of, refuse, done, proceed, with_ledger, at_time}
use Rattle.hnsr_circuit.specs.Queue.{Message, generation_of, sequence_of, queue_answer, can_queue, queued, routed, send}
use Rattle.hnsr_circuit.specs.Laws.Answers.{number-zero}
use Rattle.hnsr_circuit.specs.Laws.Capacity.{send-taken}
use Rattle.hnsr_run.specs.Past.{Book, Action, Head, Past, lives, moved_to, numbering, with_out, fewer}
use Rattle.hnsr_run.specs.History.{taken}
use Rattle.hnsr_run.specs.Run.Circuits.{none}
use Rattle.hnsr_run.specs.Run.Full.{Full, Rest, Keeps}
use Rattle.hnsr_run.specs.Run.Books.{Books, same_books, later-books}

-- ---- the invariant
-- over the runtime's fields, so that a world that leaves them alone needs no proof
pub record HeadIs (d : Head) (g : ℕ) (on : Bool) (now : ℕ) (c : OpaqueRelayConfig) : Type 0 where
  pub generation : g ≡ d.generation
  pub enabled : on ≡ d.enabled
  pub clock : now ≡ d.clock
  pub config : c ≡ d.config

abbrev pub Heads : World → Head → Type 0
Heads w d = HeadIs d (generation_of w) w.runtime.enabled w.runtime.trusted_time_high_water (config_of w)

-- the reservation r lives, and is due at e
pub record Live (now : ℕ) (b : Book) (r : ReservationId) (e : ℕ) : Type 0 where
  pub lives : lives now b r ≡ true
  pub due : b.due r ≡ e

pub record Base (S : ℕ → Bool) (w : World) (h : Past) : Type 0 where
  pub full : Full S w h
  pub books : Books w.ledger h.head.clock h.book
  -- what is not past its expiry has its reservation living, due at its own expiry
  pub kept : (j : ℕ) → h.active j ≡ true → ltb h.head.clock (h.known j).expires ≡ true
      → Live h.head.clock h.book (h.known j).reservation (h.known j).expires
  pub kept_p : (j : ℕ) → h.opens.standing j ≡ true
      → ltb h.head.clock (h.opens.asked j).ticket.expires_at ≡ true
      → Live h.head.clock h.book (h.opens.asked j).ticket.reservation_id
      (h.opens.asked j).ticket.expires_at
  pub heads : Heads w h.head
  -- the requester's context leads to the id
  pub names : (j : ℕ) → h.opens.standing j ≡ true → (p : HnsrPeerId)
      → same_peer (h.opens.asked j).requester p ≡ true
      → h.opens.named p (h.opens.asked j).context ≡ j
  -- what is active or stands was drawn by an OPEN
  pub drawn : (j : ℕ) → h.active j ≡ true → any (λ i. eqb i j) h.opens.ids ≡ true
  pub drawn_p : (j : ℕ) → h.opens.standing j ≡ true → any (λ i. eqb i j) h.opens.ids ≡ true
  pub good : config_good h.head.config ≡ true
  pub below : h.head.config.maximum_bytes_per_circuit < top 64

pub record Rel (w : World) (h : Past) : Type 0 where
  pub base : Base none w h
  -- off: nothing is active and nothing stands
  pub quiet : h.head.enabled ≡ false → (j : ℕ) → h.active j ≡ false
  pub quiet_p : h.head.enabled ≡ false → (j : ℕ) → h.opens.standing j ≡ false

-- the tables of records are as long as `new` asked
pub record Places (w : World) : Type 0 where
  pub pending : (config_of w).maximum_pending ≤ length w.pending
  pub circuits : (config_of w).maximum_circuits ≤ length w.circuits
  pub inflight : (config_of w).maximum_inflight_actions ≤ length w.inflight

-- ---- answers
pub proceed-cases : (P : Outcome → Type 0) (w : World) (a : HnsrAnswer) (o : Outcome) → (a ≡ Ok tt → P o)
    → ((e : HnsrRuntimeError) → a ≡ Err e → P (refuse w e)) → P (proceed w a o)
unfolding proceed
proceed-cases P w (Ok _) o t f = t refl
proceed-cases P w (Err e) o t f = f e refl

refused_not : {e : HnsrRuntimeError} → ◌≡◌ {A = HnsrAnswer} (Err e) (Ok tt) → true ≡ false
refused_not h = cc

pub refused_differs : {A : Type 0} {e : HnsrRuntimeError} → ◌≡◌ {A = HnsrAnswer} (Err e) (Ok tt) → A
refused_differs h = absurd (true≢false (refused_not h))

pub not_taken : (e : HnsrRuntimeError) → eqb (error_number e) 0 ≡ false
not_taken e =
    split (eqb (error_number e) 0)
    (λ t. refused_differs (number-zero (Err e) (eqb-true (error_number e) 0 t)))
    (λ t. t)

pub if-not : {A : Type 0} (P : A → Type 0) (b : Bool) (x y : A) → b ≡ false → P y → P (cond b x y)
if-not P b x y e p = subst (λ b. P (cond b x y)) (sym e) p

-- a refused call that leaves the past alone
pub if-taken : {A : Type 0} (P : A → Type 0) (e : HnsrRuntimeError) (x y : A) → P y → P (cond (taken (Err e)) x y)
if-taken P e x y p = subst (λ b. P (cond b x y)) (sym (not_taken e)) p

-- ---- queueing: 10 alone refuses, where the context is not zero and the sequence is below its top
queue-cases : (b : Bool) (n : ℕ) (x : Bool) → b ≡ false → eqb n (top 64) ≡ false
    → ((check b (Protocol (Invalid ContextZero)) then check x Capacity then check (eqb n (top 64)) GenerationExhausted)
    ≡ Ok tt)
    ⊎ ((check b (Protocol (Invalid ContextZero)) then check x Capacity then check (eqb n (top 64)) GenerationExhausted)
    ≡ Err Capacity)
queue-cases b n true e f = rw e (inr refl)
queue-cases b n false e f = rw (e, f) (inl refl)

pub can-or-full : (m : Message) (w : World) → eqb m.context 0 ≡ false → sequence_of w < top 64
    → (can_queue m w ≡ Ok tt) ⊎ (can_queue m w ≡ Err Capacity)
unfolding can_queue queue_answer capacity_answer
can-or-full m w e l =
    queue-cases (eqb m.context 0) (sequence_of w)
    (eqb (capacity_left (config_of w) (tallied false m.circuit m.destination w.inflight)) 0) e
    (ne_eqb (sequence_of w) (top 64) (λ q. omega arith))

send-full : (w : World) (m : Message) → can_queue m w ≡ Err Capacity → send w m ≡ refuse w Capacity
unfolding send proceed
send-full w m h = rw h

-- sent, or refused with 10
pub send-cases : (P : Outcome → Type 0) (w : World) (m : Message) → eqb m.context 0 ≡ false → sequence_of w < top 64
    → (can_queue m w ≡ Ok tt → P (done (queued m w) (routed m w ∷ []))) → P (refuse w Capacity) → P (send w m)
send-cases P w m e l t f = pick-one (can-or-full m w e l)
  where
    pick-one : (can_queue m w ≡ Ok tt) ⊎ (can_queue m w ≡ Err Capacity) → P (send w m)
    pick-one (inl h) = subst P (sym (send-taken w m h)) (t h)
    pick-one (inr h) = subst P (sym (send-full w m h)) f

-- no route, no action
pub emit-nothing : {w : World} {h : Past} → Rel w h → Rel w (with_out h (h.out ++ []))
emit-nothing {w} {h} R = subst (λ o. Rel w (with_out h o)) (sym (append-nil h.out)) R

-- ---- records end, actions come and go; the rest stays
pub heads-rest : {w v : World} {d : Head} → Rest w v → Heads w d → Heads v d
heads-rest r s = record {
  generation = r.generation ∙ s.generation;
  enabled = r.enabled ∙ s.enabled;
  clock = r.clock ∙ s.clock;
  config = r.config
      ∙ s.config;
}

pub shrink-base : {S : ℕ → Bool} {w : World} {h : Past} → Base S w h
    → {v : World} (ac st : ℕ → Bool) (out : List Action) → Keeps none w v (fewer h ac st out)
    → ((i : ℕ) → ac i ≡ true → h.active i ≡ true) → ((i : ℕ) → st i ≡ true → h.opens.standing i ≡ true)
    → Base none v (fewer h ac st out)
shrink-base {S} {w} {h} R {v} ac st out K l m = record {
  full = K.full;
  books = same_books K.rest.ledger R.books;
  kept = λ j a. R.kept j (l j a);
  kept_p = λ j a. R.kept_p j (m j a);
  heads = heads-rest K.rest R.heads;
  names = λ j a. R.names j (m j a);
  drawn = λ j a. R.drawn j (l j a);
  drawn_p = λ j a. R.drawn_p j (m j a);
  good = R.good;
  below = R.below;
}

pub shrink : {w : World} {h : Past} → Rel w h → {v : World} (ac st : ℕ → Bool) (out : List Action)
    → Keeps none w v (fewer h ac st out)
    → ((i : ℕ) → ac i ≡ true → h.active i ≡ true) → ((i : ℕ) → st i ≡ true → h.opens.standing i ≡ true)
    → Rel v (fewer h ac st out)
shrink {w} {h} R {v} ac st out K l m = record {
  base = shrink-base R.base ac st out K l m;
  quiet = λ e j. split (ac j) (λ a. clash (l j a) (R.quiet e j)) (λ a. a);
  quiet_p = λ e j. split (st j) (λ a. clash (m j a) (R.quiet_p e j)) (λ a. a);
}

-- ---- the clock
live-later : {now t : ℕ} {b : Book} {r : ReservationId} {e : ℕ} → Live now b r e → ltb t e ≡ true → Live t b r e
live-later {now} {t} {b} {r} {e} k l = record {
  lives = join (b.made r) (ltb t (b.due r)) (both (b.made r) (ltb now (b.due r)) k.lives).0 (ap (ltb t)
      k.due ∙ l);
  due = k.due;
}

earlier : (n t e : ℕ) → n ≤ t → ltb t e ≡ true → ltb n e ≡ true
earlier n t e l h = lt-ltb n e (omega (arith, ltb-true t e h))

pub moved-rel : {w : World} {h : Past} → Rel w h → (t : ℕ) → h.head.clock ≤ t → Rel (at_time w t) (moved_to h t)
moved-rel {w} {h} R t l = record {
  base = record {
    full = R.base.full;
    books = later-books R.base.books t l;
    kept = λ j a e. live-later (R.base.kept j a (earlier h.head.clock t (h.known j).expires l e)) e;
    kept_p =
        λ j a e.
        live-later (R.base.kept_p j a (earlier h.head.clock t (h.opens.asked j).ticket.expires_at l e)) e;
    heads = record {
      generation = R.base.heads.generation;
      enabled = R.base.heads.enabled;
      clock = refl;
      config = R.base.heads.config;
    };
    names = R.base.names;
    drawn = R.base.drawn;
    drawn_p = R.base.drawn_p;
    good = R.base.good;
    below = R.base.below;
  };
  quiet = R.quiet;
  quiet_p = R.quiet_p;
}

-- ---- numbers given change nothing else
pub numbering-rel : {w : World} {h : Past} → Rel w h → (n : ℕ) → Rel w (numbering h n)
numbering-rel R n = let H = R.base.heads in record {
  base = record {
    full = R.base.full;
    books = R.base.books;
    kept = R.base.kept;
    kept_p = R.base.kept_p;
    heads = record { generation = H.generation; enabled = H.enabled; clock = H.clock; config = H.config };
    names = R.base.names;
    drawn = R.base.drawn;
    drawn_p = R.base.drawn_p;
    good = R.base.good;
    below = R.base.below;
  };
  quiet = R.quiet;
  quiet_p = R.quiet_p;
}

-- ---- another ledger that holds the same book
pub reledger : {w : World} {h : Past} → Rel w h → (t : List ReservationUsage) → Books t h.head.clock h.book
    → Rel (with_ledger w t) h
reledger R t B = record {
  base = record {
    full = R.base.full;
    books = B;
    kept = R.base.kept;
    kept_p = R.base.kept_p;
    heads = R.base.heads;
    names = R.base.names;
    drawn = R.base.drawn;
    drawn_p = R.base.drawn_p;
    good = R.base.good;
    below = R.base.below;
  };
  quiet = R.quiet;
  quiet_p = R.quiet_p;
}
