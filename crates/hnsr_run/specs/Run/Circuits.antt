-- The table of circuits tells what is known of the active ones, and their queued counts are the bytes of DATA
-- outstanding, but for circuits in suspense: those whose counts may be off between two moves of one call.
use Rattle.std.specs.Prelude.{ℕ, ◌+◌, ◌≤◌, ◌<◌, ◌≡◌, refl, Bool, ◌&&◌, List, [], ◌∷◌, ◌++◌}
use native.Mathlib.Omega.{arith}
use Rattle.std.proofs.Common.{ap, ◌∙◌, subst, eqb-true, eq-eqb}
use Rattle.std.proofs.Math.Bool.{true, false, cond, not}
use Rattle.std.proofs.lemmas.Bool.{false≢true}
use Rattle.std.proofs.Math.Dec.{eqb}
use Rattle.hns_encoding.specs.Numbers.{top}
use Rattle.hns_encoding.specs.Laws.Tests.{split, clash, eqb_comm}
use Rattle.hns_encoding.specs.Sums.{only, one, non, total, count}
use Rattle.hns_encoding.specs.Laws.Sums.{total-le, total-append, total_plus, total-split, total-zero}
use Rattle.hnsr_circuit.specs.declared.records.RelayCircuit.{RelayCircuit}
use Rattle.hnsr_circuit.specs.declared.records.RelaySide.{RelaySide}
use Rattle.hnsr_circuit.specs.declared.records.RelaySide.TheVariants.{Requester, Endpoint}
use Rattle.hnsr_circuit.specs.Table.{also, pick, edit, clear, keep}
use Rattle.hnsr_circuit.specs.Peer.{same_peer}
use Rattle.hnsr_circuit.specs.Circuits.{no_circuit, circuit_id, circuit_at, clear_circuit, queued_to}
use Rattle.hnsr_circuit.specs.Laws.Totals.{total-keep, keep-le, total-others}
use Rattle.hnsr_circuit.specs.Laws.Lookups.{pick-has}
use Rattle.hnsr_circuit.specs.Laws.Edits.{edit-clear}
use Rattle.hnsr_circuit.specs.Laws.Keyed.{Keys, Tells, Looks, keyed-at, clear-look, clear-tells}
use Rattle.hnsr_run.specs.Past.{Known, Action, peer_on, is_data, on_circuit, toward_side, weight}

-- ---- a circuit and what is known of it: sums, never a difference
pub record Agrees (c : RelayCircuit) (k : Known) : Type 0 where
  pub requester : c.requester ≡ k.requester
  pub endpoint : c.endpoint ≡ k.endpoint
  pub apart : same_peer k.requester k.endpoint ≡ false
  pub reservation : c.reservation_id ≡ k.reservation
  pub expires : c.expires_at ≡ k.expires
  pub maximum : c.maximum_bytes ≡ k.limit
  pub total : c.maximum_total_bytes ≡ k.total
  pub credit_r : c.requester_credit + k.data_r ≡ k.window + k.window_e
  pub credit_e : c.endpoint_credit + k.data_e ≡ k.window + k.window_r
  pub forwarded : c.forwarded_bytes ≡ k.bytes
  pub limited : k.limit < top 64
  pub totalled : k.total < top 64

-- ended at one id: active elsewhere
pub end_test : (x y : Bool) → cond x false y ≡ (y && not x)
end_test true true = refl
end_test true false = refl
end_test false true = refl
end_test false false = refl

abbrev pub circuit_keys : Keys RelayCircuit ℕ Known
circuit_keys = record {
  used = λ c. c.used;
  unmark = clear_circuit;
  off = λ c. refl;
  nobody = no_circuit;
  key = circuit_id;
  same = λ i j. eqb i j;
  same-eq = eqb-true;
  same_refl = λ i. eq-eqb i i refl;
  Agree = Agrees;
}

abbrev pub Circs : List RelayCircuit → (ℕ → Bool) → (ℕ → Known) → Type 0
Circs = Tells circuit_keys

module _ {cs : List RelayCircuit} {ac : ℕ → Bool} {kn : ℕ → Known} (C : Circs cs ac kn) (j : ℕ) where
  mine : (i : ℕ) → ac i ≡ true → circuit_at j (pick (circuit_at i) no_circuit cs) ≡ eqb j i
  unfolding circuit_at
  mine i a =
      keyed-at circuit_keys j i (pick (circuit_at i) no_circuit cs)
      (pick-has (circuit_at i) no_circuit cs (C.found i ∙ a))
      ∙ eqb_comm i j

  ended-table : edit (circuit_at j) clear_circuit cs ≡ clear clear_circuit (circuit_at j) cs
  unfolding circuit_at
  ended-table = edit-clear (circuit_at j) clear_circuit cs (C.once j)

  pub remove_look : (i : ℕ) → ac i ≡ true → eqb j i ≡ false
      → pick (circuit_at i) no_circuit (edit (circuit_at j) clear_circuit cs) ≡ pick (circuit_at i) no_circuit cs
  unfolding circuit_at
  remove_look i a e = rw ended-table (clear-look circuit_keys C (circuit_at j) (λ i. eqb j i) mine i a e).1

  pub remove_circs : (ac' : ℕ → Bool) → ((i : ℕ) → ac' i ≡ cond (eqb j i) false (ac i))
      → Circs (edit (circuit_at j) clear_circuit cs) ac' kn
  unfolding circuit_at
  remove_circs ac' ea =
      rw ended-table
      (clear-tells circuit_keys C (circuit_at j) (λ i. eqb j i) mine ac' (λ i. ea i ∙ end_test (eqb j i) (ac i)))

-- ---- the queues
-- the side that an action of DATA goes to
abbrev pub side_to : Action → RelaySide
side_to a = cond a.to_endpoint Endpoint Requester

-- DATA whose circuit is not active, or that goes to another than the circuit's peer in its direction
abbrev pub stray : (ℕ → Bool) → (ℕ → Known) → Action → Bool
stray ac kn a = is_data a && not (ac a.circuit && same_peer a.destination (peer_on (side_to a) (kn a.circuit)))

-- the circuits for which S holds are in suspense
pub record Queue (S : ℕ → Bool) (cs : List RelayCircuit) (ac : ℕ → Bool) (kn : ℕ → Known)
    (out : List Action) : Type 0 where
  pub queued : (j : ℕ) → S j ≡ false → ac j ≡ true → (side : RelaySide)
      → total (weight j side) out ≡ queued_to side (pick (circuit_at j) no_circuit cs)
  pub honest : count (stray ac kn) out ≡ 0

abbrev pub none : ℕ → Bool
none j = false

module _ {S : ℕ → Bool} {cs : List RelayCircuit} {ac : ℕ → Bool} {kn : ℕ → Known} {out : List Action}
    (Q : Queue S cs ac kn out) where
  pub suspend : (S' : ℕ → Bool) → ((i : ℕ) → S' i ≡ false → S i ≡ false) → Queue S' cs ac kn out
  suspend S' w = record { queued = λ j s. Q.queued j (w j s); honest = Q.honest }

  pub resume : ((j : ℕ) → S j ≡ true → ac j ≡ true → (side : RelaySide)
      → total (weight j side) out ≡ queued_to side (pick (circuit_at j) no_circuit cs))
      → Queue none cs ac kn out
  resume r = record { queued = λ j s a. split (S j) (λ t. r j t a) (λ t. Q.queued j t a); honest = Q.honest }

  pub queue-queue : (a : Action) → stray ac kn a ≡ false
      → ((j : ℕ) → S j ≡ false → (side : RelaySide) → weight j side a ≡ 0) → Queue S cs ac kn (out ++ (a ∷ []))
  queue-queue a g z = record {
    queued = λ j s t b. omega (arith, total-append (weight j b) out (a ∷ []), z j s b, Q.queued j s t b);
    honest = omega (arith, ap (λ b. cond {A = ℕ} b 1 0) g, total-append (one (stray ac kn)) out (a ∷ []), Q.honest);
  }

  pub drop-queue : (p : Action → Bool)
      → ((j : ℕ) → S j ≡ false → ac j ≡ true → (side : RelaySide) → total (only p (weight j side)) out ≡ 0)
      → Queue S cs ac kn (keep (non p) out)
  drop-queue p z = record {
    queued =
        λ j s t b. omega
        (arith, total-keep (weight j b) (non p) out, total-split p (weight j b) out, z j s t b, Q.queued j s t b);
    honest = omega (arith, keep-le (one (stray ac kn)) (non p) out, Q.honest);
  }

  pub store_queue : (j : ℕ) (c : RelayCircuit) (k : Known) (cs' : List RelayCircuit) (ac' : ℕ → Bool) (kn' : ℕ → Known)
      → Looks circuit_keys j c cs cs' → S j ≡ true
      → (ac j ≡ true → (side : RelaySide) → peer_on side k ≡ peer_on side (kn j))
      → ((i : ℕ) → ac' i ≡ cond (eqb j i) true (ac i)) → ((i : ℕ) → kn' i ≡ cond (eqb j i) k (kn i))
      → Queue S cs' ac' kn' out
  unfolding circuit_at
  store_queue j c k cs' ac' kn' L sj peers ea ek = record {
    queued =
        λ i s t b. split (eqb j i)
        (λ e. clash sj (rw (eqb-true j i e) s))
        (λ e. rw (L.pick_at i, e) (Q.queued i s (rw (ea i, e) at t) b));
    honest = omega (arith, total-le (one (stray ac' kn')) (one (stray ac kn)) out each, Q.honest);
  }
    where
      -- the test of a DATA's destination, by the circuit's being active and its peer
      off : (d x : Bool) → cond {A = ℕ} (d && not x) 1 0 ≤ cond (d && not false) 1 0
      off true true = omega arith
      off true false = omega arith
      off false x = omega arith

      each : (a : Action) → one (stray ac' kn') a ≤ one (stray ac kn) a
      each a = split (eqb j a.circuit)
          (λ e. split (ac a.circuit)
          (λ t. let q = eqb-true j a.circuit e in
          let p : peer_on (side_to a) k ≡ peer_on (side_to a) (kn a.circuit) = subst
          (λ x. ac x ≡ true → peer_on (side_to a) k ≡ peer_on (side_to a) (kn x)) q (λ u. peers u (side_to a)) t in
          rw (ea a.circuit, ek a.circuit, e, t, p) (omega arith))
          (λ t.
          rw t (off (is_data a) (ac' a.circuit && same_peer a.destination (peer_on (side_to a) (kn' a.circuit))))))
          (λ e. rw (ea a.circuit, ek a.circuit, e) (omega arith))

  pub remove_queue : (C : Circs cs ac kn) (j : ℕ) (S' ac' : ℕ → Bool) → count (also is_data (on_circuit j)) out ≡ 0
      → ((i : ℕ) → S' i ≡ false → eqb j i ≡ false → S i ≡ false)
      → ((i : ℕ) → ac' i ≡ cond (eqb j i) false (ac i)) → Queue S' (edit (circuit_at j) clear_circuit cs) ac' kn out
  remove_queue C j S' ac' z sw ea = record {
    queued =
        λ i s t b. split (eqb j i)
        (λ e. absurd (false≢true (rw (ea i, e) at t)))
        (λ e. let t' = rw (ea i, e) at t in rw (remove_look C j i t' e) (Q.queued i (sw i s e) t' b));
    honest = omega (
      arith,
      total-le (one (stray ac' kn))
          (λ a. one (stray ac kn) a + one (also is_data (on_circuit j)) a) out each,
      total_plus (one (stray ac kn)) (one (also is_data (on_circuit j))) out,
      Q.honest,
    );
  }
    where
      on : (d x y : Bool) → cond {A = ℕ} (d && not x) 1 0 ≤ cond (d && not y) 1 0 + cond (d && true) 1 0
      on true true y = omega arith
      on true false y = omega arith
      on false x y = omega arith

      each : (a : Action) → one (stray ac' kn) a ≤ one (stray ac kn) a + one (also is_data (on_circuit j)) a
      each a = split (eqb j a.circuit)
          (λ e. rw (eqb_comm a.circuit j, e)
          (on (is_data a) (ac' a.circuit && same_peer a.destination (peer_on (side_to a) (kn a.circuit)))
          (ac a.circuit && same_peer a.destination (peer_on (side_to a) (kn a.circuit)))))
          (λ e. rw (ea a.circuit, e) (omega arith))

-- nothing is outstanding on a circuit that is not active
pub idle : {S : ℕ → Bool} {cs : List RelayCircuit} {ac : ℕ → Bool} {kn : ℕ → Known} {out : List Action}
    → Queue S cs ac kn out → (j : ℕ) → ac j ≡ false
    → (side : RelaySide) → total (weight j side) out ≡ 0
idle {ac = ac} {kn = kn} {out = out} Q j n side = total-others (stray ac kn) (weight j side) out Q.honest
    ∙ total-zero (only (non (stray ac kn)) (weight j side)) out each
  where
    inactive : (d e s x : Bool) (b : ℕ) → x ≡ false → cond (not (d && not (x && s))) (cond (d && e) b 0) 0 ≡ 0
    inactive true e s x b f = rw f
    inactive false e s x b f = refl

    elsewhere : (d e s x : Bool) (b : ℕ) → e ≡ false → cond (not (d && not x)) (cond (d && (e && s)) b 0) 0 ≡ 0
    elsewhere true e s true b f = rw f
    elsewhere true e s false b f = refl
    elsewhere false e s x b f = refl

    each : (a : Action) → only (non (stray ac kn)) (weight j side) a ≡ 0
    each a = split (eqb a.circuit j)
        (λ e. inactive (is_data a) (on_circuit j a && toward_side side a)
        (same_peer a.destination (peer_on (side_to a) (kn a.circuit))) (ac a.circuit) a.bytes
        (ap ac (eqb-true a.circuit j e) ∙ n))
        (λ e. elsewhere (is_data a) (eqb a.circuit j) (toward_side side a)
        (ac a.circuit && same_peer a.destination (peer_on (side_to a) (kn a.circuit))) a.bytes e)
