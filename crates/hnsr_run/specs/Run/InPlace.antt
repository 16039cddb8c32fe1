-- One circuit changed in place: charged by DATA, raised by WINDOW, lowered by an acknowledgement. Its own queued counts
-- are in suspense until the action is in, or out.
use Rattle.std.specs.Prelude.{ℕ, ◌+◌, ◌≤◌, ◌≡◌, refl, Bool, true, false, List, eqb}
use Rattle.std.proofs.Common.{arith, sym, ◌∙◌, subst, eqb-true, eq-eqb}
use Rattle.std.proofs.Math.Path.{ap}
use Rattle.std.proofs.Math.Bool.{cond}
use Rattle.hns_encoding.specs.Numbers.{top}
use Rattle.hns_encoding.specs.Laws.Tests.{clash}
use Rattle.hns_encoding.specs.Sums.{total}
use Rattle.hnsr_circuit.specs.declared.config.OpaqueRelayConfig.{OpaqueRelayConfig}
use Rattle.hnsr_circuit.specs.declared.records.RelayPending.{RelayPending}
use Rattle.hnsr_circuit.specs.declared.records.RelayCircuit.{RelayCircuit}
use Rattle.hnsr_circuit.specs.declared.records.RelaySide.{RelaySide}
use Rattle.hnsr_circuit.specs.declared.records.RelaySide.TheVariants.{Requester, Endpoint}
use Rattle.hnsr_circuit.specs.declared.records.InflightAction.{InflightAction}
use Rattle.hnsr_circuit.specs.Table.{any, pick, edit}
use Rattle.hnsr_circuit.specs.Circuits.{no_circuit, circuit_at, credit_of, queued_to, charged, raised, lowered}
use Rattle.hnsr_circuit.specs.Laws.Lookups.{pick-has}
use Rattle.hnsr_circuit.specs.Laws.Edits.{edit-put}
use Rattle.hnsr_circuit.specs.Laws.Keyed.{Looks, store_looks, store_tells, still}
use Rattle.hnsr_run.specs.Past.{Known, Asked, Action, peer_on, weight}
use Rattle.hnsr_run.specs.History.{sent, granted}
use Rattle.hnsr_run.specs.Run.Circuits.{Agrees, circuit_keys, none, suspend, resume, store_queue}
use Rattle.hnsr_run.specs.Run.Full.{Body}

-- ---- the record changed keeps its key
pub edit-looks : (j : ℕ) (f : RelayCircuit → RelayCircuit) (cs : List RelayCircuit) → any (circuit_at j) cs ≡ true
    → circuit_at j (f (pick (circuit_at j) no_circuit cs)) ≡ true
    → Looks circuit_keys j (f (pick (circuit_at j) no_circuit cs)) cs (edit (circuit_at j) f cs)
unfolding circuit_at
edit-looks j f cs h u =
    subst (λ t. Looks circuit_keys j (f (pick (circuit_at j) no_circuit cs)) cs t)
    (sym (edit-put (circuit_at j) f (λ c. c.used) no_circuit cs h))
    (store_looks circuit_keys j (f (pick (circuit_at j) no_circuit cs)) cs u (λ x. clash h x))

pub charged-at : (j : ℕ) (side : RelaySide) (n : ℕ) (c : RelayCircuit)
    → circuit_at j (charged side n c) ≡ circuit_at j c
unfolding circuit_at
charged-at j Requester n c = refl
charged-at j Endpoint n c = refl

pub raised_at : (j : ℕ) (side : RelaySide) (n : ℕ) (c : RelayCircuit) → circuit_at j (raised side n c) ≡ circuit_at j c
unfolding circuit_at
raised_at j Requester n c = refl
raised_at j Endpoint n c = refl

pub lowered-at : (j : ℕ) (side : RelaySide) (n : ℕ) (c : RelayCircuit)
    → circuit_at j (lowered side n c) ≡ circuit_at j c
unfolding circuit_at
lowered-at j Requester n c = refl
lowered-at j Endpoint n c = refl

-- ---- and agrees with what is then known
pub charge_agrees : (side : RelaySide) (n : ℕ) {c : RelayCircuit} {k : Known} → Agrees c k → n ≤ credit_of side c
    → c.forwarded_bytes + n ≤ top 64
    → Agrees (charged side n c) (sent side n k)
charge_agrees Requester n A l m = record {
  requester = A.requester;
  endpoint = A.endpoint;
  apart = A.apart;
  reservation = A.reservation;
  expires = A.expires;
  maximum = A.maximum;
  total = A.total;
  credit_r = omega (arith, A.credit_r);
  credit_e = A.credit_e;
  forwarded = omega (arith, A.forwarded);
  limited = A.limited;
  totalled = A.totalled;
}
charge_agrees Endpoint n A l m = record {
  requester = A.requester;
  endpoint = A.endpoint;
  apart = A.apart;
  reservation = A.reservation;
  expires = A.expires;
  maximum = A.maximum;
  total = A.total;
  credit_r = A.credit_r;
  credit_e = omega (arith, A.credit_e);
  forwarded = omega (arith, A.forwarded);
  limited = A.limited;
  totalled = A.totalled;
}

pub raise_agrees : (side : RelaySide) (n : ℕ) {c : RelayCircuit} {k : Known} → Agrees c k
    → Agrees (raised side n c) (granted side n k)
raise_agrees Requester n A = record {
  requester = A.requester;
  endpoint = A.endpoint;
  apart = A.apart;
  reservation = A.reservation;
  expires = A.expires;
  maximum = A.maximum;
  total = A.total;
  credit_r = A.credit_r;
  credit_e = omega (arith, A.credit_e);
  forwarded = A.forwarded;
  limited = A.limited;
  totalled = A.totalled;
}
raise_agrees Endpoint n A = record {
  requester = A.requester;
  endpoint = A.endpoint;
  apart = A.apart;
  reservation = A.reservation;
  expires = A.expires;
  maximum = A.maximum;
  total = A.total;
  credit_r = omega (arith, A.credit_r);
  credit_e = A.credit_e;
  forwarded = A.forwarded;
  limited = A.limited;
  totalled = A.totalled;
}

pub lower-agrees : (side : RelaySide) (n : ℕ) {c : RelayCircuit} {k : Known} → Agrees c k → Agrees (lowered side n c) k
lower-agrees Requester n A = record {
  requester = A.requester;
  endpoint = A.endpoint;
  apart = A.apart;
  reservation = A.reservation;
  expires = A.expires;
  maximum = A.maximum;
  total = A.total;
  credit_r = A.credit_r;
  credit_e = A.credit_e;
  forwarded = A.forwarded;
  limited = A.limited;
  totalled = A.totalled;
}
lower-agrees Endpoint n A = record {
  requester = A.requester;
  endpoint = A.endpoint;
  apart = A.apart;
  reservation = A.reservation;
  expires = A.expires;
  maximum = A.maximum;
  total = A.total;
  credit_r = A.credit_r;
  credit_e = A.credit_e;
  forwarded = A.forwarded;
  limited = A.limited;
  totalled = A.totalled;
}

pub sent_peers : (side : RelaySide) (n : ℕ) (k : Known) (s : RelaySide) → peer_on s (sent side n k) ≡ peer_on s k
sent_peers Requester n k Requester = refl
sent_peers Requester n k Endpoint = refl
sent_peers Endpoint n k Requester = refl
sent_peers Endpoint n k Endpoint = refl

pub granted_peers : (side : RelaySide) (n : ℕ) (k : Known) (s : RelaySide) → peer_on s (granted side n k) ≡ peer_on s k
granted_peers Requester n k Requester = refl
granted_peers Requester n k Endpoint = refl
granted_peers Endpoint n k Requester = refl
granted_peers Endpoint n k Endpoint = refl

-- ---- the change, at all four
module _ {S : ℕ → Bool} {c : OpaqueRelayConfig} {g next : ℕ} {ps : List RelayPending} {cs : List RelayCircuit}
    {t : List InflightAction} {ac : ℕ → Bool} {kn : ℕ → Known} {st : ℕ → Bool} {ask : ℕ → Asked} {out : List Action}
    (F : Body S c g next ps cs t ac kn st ask out) (j : ℕ) where
  -- j, and nothing else, in suspense
  pub only_one : ((i : ℕ) → eqb j i ≡ false → S i ≡ false) → Body (λ i. eqb j i) c g next ps cs t ac kn st ask out
  only_one sw = record {
    acts = F.acts;
    circs = F.circs;
    queue = suspend F.queue (λ i. eqb j i) sw;
    pends = F.pends;
    disjoint = F.disjoint;
    real = F.real;
    real_p = F.real_p;
  }

  pub there : ac j ≡ true → any (circuit_at j) cs ≡ true
  unfolding circuit_at
  there a = F.circs.found j ∙ a

  pub agreed : ac j ≡ true → Agrees (pick (circuit_at j) no_circuit cs) (kn j)
  unfolding circuit_at
  agreed a = F.circs.agree j a

  pub place-circuit : S j ≡ true → ac j ≡ true → (f : RelayCircuit → RelayCircuit) (k : Known) (kn' : ℕ → Known)
      → ((x : RelayCircuit) → circuit_at j (f x) ≡ circuit_at j x) → Agrees (f (pick (circuit_at j) no_circuit cs)) k
      → ((side : RelaySide) → peer_on side k ≡ peer_on side (kn j)) → ((i : ℕ) → kn' i ≡ cond (eqb j i) k (kn i))
      → Body S c g next ps (edit (circuit_at j) f cs) t ac kn' st ask out
  place-circuit sj a f k kn' same A peers ek =
      let L = edit-looks j f cs (there a)
      (same (pick (circuit_at j) no_circuit cs) ∙ pick-has (circuit_at j) no_circuit cs (there a)) in record {
        acts = F.acts;
        circs =
            store_tells circuit_keys F.circs j (f (pick (circuit_at j) no_circuit cs)) k (edit (circuit_at j) f cs) ac
            kn' L A (still circuit_keys F.circs j a) ek;
        queue = store_queue F.queue j (f (pick (circuit_at j) no_circuit cs)) k (edit (circuit_at j) f cs) ac kn' L sj
            (λ u. peers) (still circuit_keys F.circs j a) ek;
        pends = F.pends;
        disjoint = F.disjoint;
        real = F.real;
        real_p = F.real_p;
      }

  pub looked : ac j ≡ true → (f : RelayCircuit → RelayCircuit)
      → ((x : RelayCircuit) → circuit_at j (f x) ≡ circuit_at j x)
      → pick (circuit_at j) no_circuit (edit (circuit_at j) f cs) ≡ f (pick (circuit_at j) no_circuit cs)
  unfolding circuit_at
  looked a f same =
      (edit-looks j f cs (there a)
      (same (pick (circuit_at j) no_circuit cs) ∙ pick-has (circuit_at j) no_circuit cs (there a))).pick_at j
      ∙ ap (λ b. cond b (f (pick (circuit_at j) no_circuit cs)) (pick (circuit_at j) no_circuit cs)) (eq-eqb j j refl)

-- out of suspense, once its counts are right
pub resume-at : {c : OpaqueRelayConfig} {g next : ℕ} {ps : List RelayPending} {cs : List RelayCircuit}
    {t : List InflightAction} {ac : ℕ → Bool} {kn : ℕ → Known} {st : ℕ → Bool} {ask : ℕ → Asked}
    {out : List Action} (j : ℕ)
    → Body (λ i. eqb j i) c g next ps cs t ac kn st ask out
    → ((side : RelaySide) → total (weight j side) out ≡ queued_to side (pick (circuit_at j) no_circuit cs))
    → Body none c g next ps cs t ac kn st ask out
resume-at {cs = cs} {out = out} j F q = record {
  acts = F.acts;
  circs = F.circs;
  queue =
      resume F.queue
      (λ i s a side. subst (λ x. total (weight x side) out ≡ queued_to side (pick (circuit_at x) no_circuit cs))
      (eqb-true j i s) (q side));
  pends = F.pends;
  disjoint = F.disjoint;
  real = F.real;
  real_p = F.real_p;
}
