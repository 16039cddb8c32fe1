-- The walks of a disconnect: turn by turn, what is said is read as it was labelled.
use Prim.Native.Nat.{ℕ, ◌+◌, ◌≤◌, ◌<◌}
use Rattle.std.proofs.Common.{arith, sym, ap, ◌∙◌, inl, inr, ltb-false, le-ltb, eq-eqb}
use Rattle.std.specs.Prelude.{◌≡◌, false, cond, not, ◌&&◌, ◌||◌, List, [], ◌∷◌, ◌++◌, map, ◌⊎◌, ltb, eqb, length}
use Rattle.std.specs.Prelude.{Ok, Err}
use Rattle.std.proofs.Math.Path.{refl, subst}
use Rattle.std.proofs.Math.Bool.{Bool, true, and-false}
use Rattle.std.proofs.Math.ListN.{length-append}
use Rattle.hns_encoding.specs.Numbers.{top}
use Rattle.hns_encoding.specs.Laws.Tests.{split, clash, both, join, either}
use Rattle.hnsr_body.specs.declared.messages.Notice.TheVariants.{PeerDisconnected}
use Rattle.hnsr_circuit.specs.declared.peer.HnsrPeerId.{HnsrPeerId}
use Rattle.hnsr_circuit.specs.declared.records.RelaySide.{RelaySide}
use Rattle.hnsr_circuit.specs.declared.records.RelaySide.TheVariants.{Requester, Endpoint}
use Rattle.hnsr_circuit.specs.declared.records.RelayPending.{RelayPending}
use Rattle.hnsr_circuit.specs.declared.records.RelayCircuit.{RelayCircuit}
use Rattle.hnsr_circuit.specs.Answers.{HnsrAnswer}
use Rattle.hnsr_circuit.specs.Table.{any, place_of}
use Rattle.hnsr_circuit.specs.Peer.{same_peer}
use Rattle.hnsr_circuit.specs.Pending.{pending_id, pending_at, pending_of}
use Rattle.hnsr_circuit.specs.Circuits.{circuit_id, circuit_at, circuit_of, is_side, peer_at}
use Rattle.hnsr_circuit.specs.Inflight.{tallied, capacity_left, capacity_answer}
use Rattle.hnsr_circuit.specs.Route.{Route}
use Rattle.hnsr_circuit.specs.World.{World, config_of}
use Rattle.hnsr_circuit.specs.Queue.{Message, Sent, sequence_of, queue_answer, can_queue, routed, tell_if, tell}
use Rattle.hnsr_circuit.specs.Opcode.{op_close}
use Rattle.hnsr_circuit.specs.Packet.{circuit_in}
use Rattle.hnsr_circuit.specs.Revocation.{without_pending, without_actions, end_pending, end_circuit, closing}
use Rattle.hnsr_circuit.specs.Revocation.{close_to_requester, close_to_endpoint}
use Rattle.hnsr_circuit.specs.Revocation.{close_to, pending_in, revoke_circuit_there}
use Rattle.hnsr_circuit.specs.Revocation.{revoke_circuit, walk, pending_table, circuit_table, revoke_all}
use Rattle.hnsr_circuit.specs.RevokingCalls.{close_to_other, disconnect_pending}
use Rattle.hnsr_circuit.specs.Laws.Peer.{same_refl}
use Rattle.hnsr_run.specs.Past.{Known, Asked, Action, Past, on_circuit}
use Rattle.hnsr_run.specs.Past.{tally, heard, emit, open_ended, circuit_ended}
use Rattle.hnsr_run.specs.History.{asked_side, known_side, own_open, shared_id, at_turn}
use Rattle.hnsr_run.specs.History.{other_of, comes, about_close, heard_on_leaving}
use Rattle.hnsr_run.specs.Run.Actions.{tally-held}
use Rattle.hnsr_run.specs.Run.Circuits.{Agrees}
use Rattle.hnsr_run.specs.Run.Full.{AgreesP, Full, Keeps}
use Rattle.hnsr_run.specs.Run.Ended.{end_pending_lem}
use Rattle.hnsr_run.specs.Run.Walks.{when-cases}
use Rattle.hnsr_run.specs.Run.ByLookup.{by_id, disconnected-by-id, circuit-by-id}
use Rattle.hnsr_run.specs.Run.Ends.{pending-agrees, pending-is, pending-there, disconnecting, labelled-own}
use Rattle.hnsr_run.specs.Run.Revocations.{walk-pending, walk-circuits, parted_opens}
use Rattle.hnsr_circuit.specs.Laws.Capacity.{can-queue}
use Rattle.hnsr_run.specs.Run.Numbers.{disconnect-pending-counts}
use Rattle.hnsr_run.specs.Run.Leaving.{All, all_append, all_imp, or-one, own, After}
use Rattle.hnsr_run.specs.Run.Leaving.{Fits, Turn, own_turn, own-stands, later}

-- ---- the CLOSE of a turn
abbrev said : HnsrPeerId → ℕ → (context : ℕ) → Message
said d m x = closing d m op_close x PeerDisconnected

-- its fields are those of the OPEN
said-is : {S : ℕ → Bool} (p : HnsrPeerId) (w : World) (h : Past) (m : ℕ) → Full S w h → h.opens.standing m ≡ true
    → let k = h.opens.asked m in
    close_to_other p (pending_in w m)
    ≡ cond (same_peer k.requester p) (said k.endpoint m m) (said k.requester m k.context)
unfolding close_to_other close_to_endpoint close_to_requester
said-is p w h m F a = let A = pending-agrees w h F m a in let q = pending-is w h F m a in
    λ i.
    cond (same_peer (A.requester i) p) (said (A.endpoint i) (q i) (q i)) (said (A.requester i) (q i) (A.context i))

turn_is : {S : ℕ → Bool} (p : HnsrPeerId) (w : World) (h : Past) (m : ℕ) → Full S w h → h.opens.standing m ≡ true
    → by_id (disconnect_pending p) w m ≡ tell (close_to_other p (pending_in w m)) (end_pending w (pending_at m) m)
turn_is p w h m F a = disconnected-by-id w m (pending-there w h F m ∙ a) p

-- ---- told exactly where there is capacity
abbrev left : Message → World → ℕ
left n v = capacity_left (config_of v) (tallied false n.circuit n.destination v.inflight)

module _ (n : Message) (v : World) (some : eqb n.context 0 ≡ false) (low : sequence_of v < top 64) where
  tell-full : eqb (left n v) 0 ≡ true → (tell n v).routes ≡ []
  unfolding tell tell_if can_queue queue_answer capacity_answer
  tell-full e = rw (some, e)

  tell-free : eqb (left n v) 0 ≡ false → (tell n v).routes ≡ routed n v ∷ []
  unfolding tell tell_if capacity_answer
  tell-free e = rw (can-queue n v some low (rw e))

module _ (p : HnsrPeerId) where
  abbrev Leads : Past → Type 0
  Leads h = (j : ℕ) → h.opens.standing j ≡ true → (q : HnsrPeerId) → same_peer (h.opens.asked j).requester q ≡ true
      → h.opens.named q (h.opens.asked j).context ≡ j

  -- a CLOSE to a side of a circuit of p's
  abbrev Shared : Past → Route → Type 0
  Shared h r =
      (r.circuit ≡ r.context)
      × ((h.active r.context
      && (known_side p (h.known r.context) && known_side r.destination (h.known r.context))) ≡ true)

  shared-fits : (h : Past) (r : Route) → Shared h r → Fits p h r
  shared-fits h r s = inl (
    s.0,
    ap (λ b. b
        || (h.opens.standing r.context
        && (asked_side p (h.opens.asked r.context) && asked_side r.destination (h.opens.asked r.context))))
        s.1,
  )

  -- what fits after a turn fits before it
  fits-before : (h : Past) (m : ℕ) (ms : List Route) (r : Route) → Fits p (emit (open_ended h m) own ms) r → Fits p h r
  fits-before h m ms r (inl (e, s)) =
      inl (
        e,
        shared (either (h.active x && (known_side p (h.known x) && known_side d (h.known x)))
            (g.opens.standing x && both-sides) s),
      )
    where
      g : Past
      g = emit (open_ended h m) own ms

      x : ℕ
      x = r.context

      d : HnsrPeerId
      d = r.destination

      both-sides : Bool
      both-sides = asked_side p (h.opens.asked x) && asked_side d (h.opens.asked x)

      shared : ((h.active x && (known_side p (h.known x) && known_side d (h.known x))) ≡ true)
          ⊎ ((cond (eqb m x) false (h.opens.standing x) && both-sides) ≡ true)
          → shared_id h p d x ≡ true
      shared (inl a) = ap (λ b. b || (h.opens.standing x && both-sides)) a
      shared (inr a) =
          or-one (h.active x && (known_side p (h.known x) && known_side d (h.known x)))
          (h.opens.standing x && both-sides)
          (let k = both (cond (eqb m x) false (h.opens.standing x)) both-sides a in
          join (h.opens.standing x) both-sides (stood k.0) k.1)
        where
          stood : cond (eqb m x) false (h.opens.standing x) ≡ true → h.opens.standing x ≡ true
          stood y =
              split (eqb m x)
              (λ z. clash y (ap (λ b. cond b false (h.opens.standing x)) z))
              (λ z. sym (ap (λ b. cond b false (h.opens.standing x)) z) ∙ y)
  fits-before h m ms r (inr (o, e)) = inr (
    let j = h.opens.named r.destination r.context in let k = h.opens.asked j in
        let c = same_peer k.requester r.destination && eqb k.context r.context in
        let a = both (cond (eqb m j) false (h.opens.standing j) && c) (same_peer k.endpoint p) o in
        let b = both (cond (eqb m j) false (h.opens.standing j)) c a.0 in
        let s : h.opens.standing j ≡ true = split (eqb m j)
        (λ z. clash b.0 (ap (λ b. cond b false (h.opens.standing j)) z))
        (λ z. sym (ap (λ b. cond b false (h.opens.standing j)) z) ∙ b.0) in
        join (h.opens.standing j && c) (same_peer k.endpoint p) (join (h.opens.standing j) c s b.1) a.1,
    e,
  )

  -- ---- the route of the turn itself
  module _ (h : Past) (m : ℕ) (t : Turn p h m) (leads : Leads h) (r : Route) (on : r.circuit ≡ m)
      (comes-m : comes p h [] m ≡ true) where
    abbrev k : Asked
    k = h.opens.asked m

    abbrev x : ℕ
    x = r.context

    abbrev d : HnsrPeerId
    d = r.destination

    abbrev j : ℕ
    j = h.opens.named d x

    abbrev read : (own shared low : Bool) → (fx fj : Bool) → ℕ
    read o s l fx fj = cond o (cond s (cond l (cond fx x j) (cond fj j x)) j) x

    -- to the endpoint, under the id
    shared_open : d ≡ k.endpoint → x ≡ m → shared_id h p d x ≡ true
    shared_open ed ex =
        or-one (h.active x && (known_side p (h.known x) && known_side d (h.known x))) _
        (subst
        (λ i. (h.opens.standing i && (asked_side p (h.opens.asked i) && asked_side d (h.opens.asked i))) ≡ true)
        (sym ex)
        (subst (λ (y : HnsrPeerId). (h.opens.standing m && (asked_side p k && asked_side y k)) ≡ true) (sym ed)
        (join (h.opens.standing m) (asked_side p k && asked_side k.endpoint k) t.stands
        (join (asked_side p k) (asked_side k.endpoint k) t.side
        (or-one (same_peer k.requester k.endpoint) _ (same_refl k.endpoint))))))

    endpoint-read : d ≡ k.endpoint → x ≡ m → about_close p h [] r ≡ m
    endpoint-read ed ex = split (own_open h p r)
        (λ o. let s = own-stands p h r o in
        (λ i. read (o i) (shared_open ed ex i) (h.opens.standing x && ltb x j) (comes_x i) (comes p h [] j))
        ∙ split (h.opens.standing x && ltb x j)
        (λ l. ap (λ b. cond b x (cond (comes p h [] j) j x)) l ∙ ex)
        (λ l. ap (λ b. cond b x (cond (comes p h [] j) j x)) l
        ∙ let low : ltb x j ≡ false = sym (ap (λ b. b && ltb x j) (ap h.opens.standing ex ∙ t.stands)) ∙ l in
        let same : j ≡ m = omega (arith, ltb-false x j low, t.least j s.0 s.1, ex) in
        split (comes p h [] j) (λ c. ap (λ b. cond b j x) c ∙ same) (λ c. ap (λ b. cond b j x) c ∙ ex)))
        (λ o.
        (λ i. read (o i) (shared_id h p d x) (h.opens.standing x && ltb x j) (comes p h [] x) (comes p h [] j)) ∙ ex)
      where
        comes_x : comes p h [] x ≡ true
        comes_x = subst (λ i. comes p h [] i ≡ true) (sym ex) comes-m

    endpoint-fits : d ≡ k.endpoint → x ≡ m → Fits p h r
    endpoint-fits ed ex = inl (on ∙ sym ex, shared_open ed ex)

    -- to the requester, under its own context
    module _ (ed : d ≡ k.requester) (ex : x ≡ k.context) (other : same_peer k.requester p ≡ false) where
      is : j ≡ m
      is =
          subst (λ (y : HnsrPeerId). h.opens.named y x ≡ m) (sym ed)
          (ap (h.opens.named k.requester) ex ∙ leads m t.stands k.requester (same_refl k.requester))

      toward-p : same_peer k.endpoint p ≡ true
      toward-p = sym (ap (λ b. b || same_peer k.endpoint p) other) ∙ t.side

      is-own : own_open h p r ≡ true
      is-own =
          subst (λ i. ((h.opens.standing i
          && (same_peer (h.opens.asked i).requester d && eqb (h.opens.asked i).context x))
          && same_peer (h.opens.asked i).endpoint p) ≡ true) (sym is)
          (join (h.opens.standing m && (same_peer k.requester d && eqb k.context x)) (same_peer k.endpoint p)
          (join (h.opens.standing m) (same_peer k.requester d && eqb k.context x) t.stands
          (join (same_peer k.requester d) (eqb k.context x)
          (subst (λ (y : HnsrPeerId). same_peer k.requester y ≡ true) (sym ed) (same_refl k.requester))
          (eq-eqb k.context x (sym ex)))) toward-p)

      -- an id that is shared, and stands, comes at m or later
      not_lower : shared_id h p d x ≡ true → (h.opens.standing x && ltb x j) ≡ false
      not_lower s =
          split (h.opens.standing x)
          (λ a. ap (λ b. b && ltb x j) a ∙ le-ltb x j (omega (arith, is, t.least x a (side a))))
          (λ a. ap (λ b. b && ltb x j) a)
        where
          side : h.opens.standing x ≡ true → asked_side p (h.opens.asked x) ≡ true
          side a =
              of (either (h.active x && (known_side p (h.known x) && known_side d (h.known x)))
              (h.opens.standing x && (asked_side p (h.opens.asked x) && asked_side d (h.opens.asked x))) s)
            where
              of : ((h.active x && (known_side p (h.known x) && known_side d (h.known x))) ≡ true)
                  ⊎ ((h.opens.standing x && (asked_side p (h.opens.asked x) && asked_side d (h.opens.asked x)))
                  ≡ true) → asked_side p (h.opens.asked x) ≡ true
              of (inl c) =
                  clash (both (h.active x) (known_side p (h.known x) && known_side d (h.known x)) c).0
                  (t.disjoint x a)
              of (inr c) =
                  (both (asked_side p (h.opens.asked x)) (asked_side d (h.opens.asked x))
                  (both (h.opens.standing x)
                  (asked_side p (h.opens.asked x) && asked_side d (h.opens.asked x)) c).1).0

      requester-read : about_close p h [] r ≡ m
      requester-read =
          (λ i. read (is-own i) (shared_id h p d x) (h.opens.standing x && ltb x j) (comes p h [] x) (comes-j i))
          ∙ split (shared_id h p d x)
          (λ s. (λ i. cond (s i) (cond (not_lower s i) (cond (comes p h [] x) x j) j) j) ∙ is)
          (λ s. ap (λ b. cond b (cond (h.opens.standing x && ltb x j) (cond (comes p h [] x) x j) j) j) s ∙ is)
        where
          comes-j : comes p h [] j ≡ true
          comes-j = subst (λ i. comes p h [] i ≡ true) (sym is) comes-m

      requester-fits : Fits p h r
      requester-fits = inr (is-own, on ∙ sym is)

  -- ---- the walk over the pending records, whatever CLOSEs of circuits follow
  module _ (S : ℕ → Bool) (u : World) (tail : List Route) where
    abbrev Heard : World → Past → List Route → Type 0
    Heard w h rs = Leads h → config_of w ≡ h.head.config → All (Shared h) tail → sequence_of w + length rs < top 64
        → (heard_on_leaving p h [] (rs ++ tail) ≡ map own (rs ++ tail)) × All (Fits p h) (rs ++ tail)

    -- no OPEN of p's is left: an id is meant
    circuits-heard : (h : Past) → ((i : ℕ) → h.opens.standing i ≡ true → asked_side p (h.opens.asked i) ≡ false)
        → (rs : List Route) (e : List Action) → All (Shared h) rs
        → heard_on_leaving p h e rs ≡ map own rs
    circuits-heard h free [] e s = refl
    circuits-heard h free (r ∷ rs) e s =
        let x = r.context in
        let j = h.opens.named r.destination x in
        let o : own_open h p r ≡ false =
        split (own_open h p r) (λ y. let k = own-stands p h r y in clash k.1 (free j k.0)) (λ y. y) in
        let q : about_close p h e r ≡ r.circuit =
        ap (λ b. cond b
        (cond (shared_id h p r.destination x)
        (cond (h.opens.standing x && ltb x j) (cond (comes p h e x) x j) (cond (comes p h e j) j x)) j) x) o
        ∙ sym s.0.0 in
        λ i. heard (λ z. q i) r ∷ circuits-heard h free rs (e ++ (heard (λ z. q i) r ∷ [])) s.1 i

    none-heard : (w : World) (h : Past)
        → ((i : ℕ) → h.opens.standing i ≡ true → asked_side p (h.opens.asked i) ≡ false) → Heard w h []
    none-heard w h free leads conf shared low =
        (circuits-heard h free tail [] shared, all_imp tail (λ r s. shared-fits h r s) shared)

    module _ (w : World) (h : Past) (m : ℕ) (rs : List Route) (K : Keeps S u w h) (a : h.opens.standing m ≡ true)
        (s : asked_side p (h.opens.asked m) ≡ true)
        (l : (i : ℕ) → h.opens.standing i ≡ true → asked_side p (h.opens.asked i) ≡ true → m ≤ i) where
      t : Turn p h m
      t = record { stands = a; side = s; least = l; disjoint = K.full.disjoint }

      abbrev v : World
      v = end_pending w (pending_at m) m

      abbrev after_turn : List Route → Past
      after_turn ms = emit (open_ended h m) own ms

      abbrev Then : List Route → Type 0
      Then ms =
          (heard_on_leaving p (after_turn ms) [] (rs ++ tail) ≡ map own (rs ++ tail))
          × All (Fits p (after_turn ms)) (rs ++ tail)

      abbrev Now : List Route → Type 0
      Now ms =
          (heard_on_leaving p h [] ((ms ++ rs) ++ tail) ≡ map own ((ms ++ rs) ++ tail))
          × All (Fits p h) ((ms ++ rs) ++ tail)

      module _ (leads : Leads h) (conf : config_of w ≡ h.head.config) (low : sequence_of w < top 64) where
        same-config : config_of v ≡ h.head.config
        unfolding end_pending without_pending without_actions
        same-config = conf

        same-sequence : sequence_of v ≡ sequence_of w
        unfolding end_pending without_pending without_actions
        same-sequence = refl

        -- the capacity that history reckons is the machine's
        left_is : (d : HnsrPeerId) (x : ℕ) → other_of p (h.opens.asked m) ≡ d → (e : List Action)
            → All (λ (b : Action). After h m b.circuit) e
            → capacity_left h.head.config (tally m (other_of p (h.opens.asked m)) (at_turn h p m e))
            ≡ left (said d m x) v
        left_is d x o e after =
            (λ i. capacity_left (sym same-config i) (tally m (o i) (own_turn p t e after i)))
            ∙ ap (capacity_left (config_of v)) (sym (tally-held (end_pending_lem w h m a K).full.acts m d))

        module _ (d : HnsrPeerId) (x : ℕ) (o : other_of p (h.opens.asked m) ≡ d) (some : eqb x 0 ≡ false)
            (reads : (r : Route) → r.circuit ≡ m → r.destination ≡ d → r.context ≡ x → comes p h [] m ≡ true
            → (about_close p h [] r ≡ m) × Fits p h r) where
          full : eqb (left (said d m x) v) 0 ≡ true → Then [] → Now []
          full z n = (
            later p t [] tt over (rs ++ tail) [] tt n.1 n.0,
            all_imp (rs ++ tail) (λ r f. fits-before h m [] r f) n.1,
          )
            where
              over : (e : List Action) → All (λ (b : Action). After h m b.circuit) e → comes p h e m ≡ false
              over e after =
                  ap (λ b. not (any (on_circuit m) e) && not b) (ap (λ k. eqb k 0) (left_is d x o e after) ∙ z)
                  ∙ and-false (not (any (on_circuit m) e))

          free : eqb (left (said d m x) v) 0 ≡ false → let r = routed (said d m x) v in Then (r ∷ []) → Now (r ∷ [])
          free z n = let r = routed (said d m x) v in
              let c : comes p h [] m ≡ true = ap not (ap (λ k. eqb k 0) (left_is d x o [] tt) ∙ z) in
              let q = reads r refl refl refl c in
              let here : heard (about_close p h []) r ≡ own r = λ i. heard (λ y. q.0 i) r in
              let over : (e : List Action) → All (λ (b : Action). After h m b.circuit) e
              → comes p h (own r ∷ e) m ≡ false = λ e after. ap (λ b. not (b || any (on_circuit m) e)
              && not (eqb
              (capacity_left h.head.config (tally m (other_of p (h.opens.asked m)) (at_turn h p m (own r ∷ e)))) 0))
              (eq-eqb m m refl) in (
                (λ i. here i ∷ heard_on_leaving p h (here i ∷ []) (rs ++ tail))
                    ∙ ap {B = List Action} (λ y. own r ∷ y)
                    (later p t (r ∷ []) (refl, tt) over (rs ++ tail) [] tt n.1 n.0),
                (q.1, all_imp (rs ++ tail) (λ y f. fits-before h m (r ∷ []) y f) n.1),
              )

          heard-now : Then (tell (said d m x) v).routes → Now (tell (said d m x) v).routes
          heard-now =
              let low-v : sequence_of v < top 64 = subst (λ k. k < top 64) (sym same-sequence) low in
              split (eqb (left (said d m x) v) 0)
              (λ z. subst (λ ms. Then ms → Now ms) (sym (tell-full (said d m x) v some low-v z)) (full z))
              (λ z. subst (λ ms. Then ms → Now ms) (sym (tell-free (said d m x) v some low-v z)) (free z))

        turn-heard : Then (by_id (disconnect_pending p) w m).routes → Now (by_id (disconnect_pending p) w m).routes
        turn-heard =
            subst (λ (z : Sent). Then z.routes → Now z.routes) (sym (turn_is p w h m K.full a))
            (subst (λ (n : Message). Then (tell n v).routes → Now (tell n v).routes)
            (sym (said-is p w h m K.full a)) (split (same_peer k.requester p) to-endpoint to-requester))
          where
            k : Asked
            k = h.opens.asked m

            Both : Bool → Type 0
            Both b =
                let n = cond b (said k.endpoint m m) (said k.requester m k.context) in
                Then (tell n v).routes → Now (tell n v).routes

            to-endpoint : same_peer k.requester p ≡ true → Both (same_peer k.requester p)
            to-endpoint e =
                subst Both (sym e)
                (heard-now k.endpoint m (ap (λ b. cond b k.endpoint k.requester) e) (K.full.real_p m a)
                (λ r on ed ex c. (endpoint-read h m t leads r on c ed ex, endpoint-fits h m t leads r on c ed ex)))

            to-requester : same_peer k.requester p ≡ false → Both (same_peer k.requester p)
            to-requester e =
                subst Both (sym e)
                (heard-now k.requester k.context (ap (λ b. cond b k.endpoint k.requester) e)
                (pending-agrees w h K.full m a).some
                (λ r on ed ex c.
                (requester-read h m t leads r on c ed ex e, requester-fits h m t leads r on c ed ex e)))

      more_heard : Heard (by_id (disconnect_pending p) w m).world
          (after_turn (by_id (disconnect_pending p) w m).routes) rs
          → Heard w h ((by_id (disconnect_pending p) w m).routes ++ rs)
      more_heard n leads conf shared low =
          let ms = (by_id (disconnect_pending p) w m).routes in
          let k = disconnect-pending-counts p w (place_of (pending_at m) w.pending) in
          let sum = length-append ms rs in
          let K₁ = (disconnecting p).keeps S u w h m (labelled-own (asked_side p) (known_side p) h) K a s in
          turn-heard leads conf (omega arith)
          (n (λ j b. leads j (stood j b)) (K₁.rest.config ∙ sym K.rest.config ∙ conf) shared
          (omega (arith, k.sequence)))
        where
          stood : (j : ℕ) → cond (eqb m j) false (h.opens.standing j) ≡ true → h.opens.standing j ≡ true
          stood j y =
              split (eqb m j)
              (λ z. clash y (ap (λ b. cond b false (h.opens.standing j)) z))
              (λ z. sym (ap (λ b. cond b false (h.opens.standing j)) z) ∙ y)

  -- ---- the walk over the circuits
  tell-shared : (h : Past) (m : ℕ) (v : World) (d : HnsrPeerId) → h.active m ≡ true → known_side p (h.known m) ≡ true
      → known_side d (h.known m) ≡ true
      → All (Shared h) (tell (close_to PeerDisconnected d m) v).routes
  unfolding tell tell_if close_to
  tell-shared h m v d a s k = by (can_queue (close_to PeerDisconnected d m) v)
    where
      by : (z : HnsrAnswer) → All (Shared h) (tell_if z (close_to PeerDisconnected d m) v).routes
      by (Ok _) = (
        (
          refl,
          join (h.active m) (known_side p (h.known m) && known_side d (h.known m)) a
              (join (known_side p (h.known m)) (known_side d (h.known m)) s k),
        ),
        tt,
      )
      by (Err e) = tt

  more_shared : {S : ℕ → Bool} (w : World) (h : Past) (m : ℕ) (rs : List Route) → Full S w h → h.active m ≡ true
      → known_side p (h.known m) ≡ true
      → All (Shared (emit (circuit_ended h m) own (revoke_circuit PeerDisconnected w m).routes)) rs
      → All (Shared h) ((revoke_circuit PeerDisconnected w m).routes ++ rs)
  unfolding revoke_circuit circuit_at
  more_shared w h m rs F a s n = all_append (Shared h) (revoke_circuit PeerDisconnected w m).routes rs
      (when-cases (λ (o : Sent). All (Shared h) o.routes) (any (circuit_at m) w.circuits) _ w
      (λ e. subst (λ (o : Sent). All (Shared h) o.routes) (sym (circuit-by-id w m e PeerDisconnected))
      (all_append (Shared h) (tell (close_to PeerDisconnected (circuit_in w m).requester m) (end_circuit w m)).routes _
      (tell-shared h m (end_circuit w m) (circuit_in w m).requester a s (side Requester))
      (tell-shared h m _ (circuit_in w m).endpoint a s (side Endpoint))))
      (λ e. tt))
      (all_imp rs (λ r f. (f.0, before r f.1)) n)
    where
      side : (z : RelaySide) → known_side (peer_at z (circuit_in w m)) (h.known m) ≡ true
      side Requester =
          subst (λ (y : HnsrPeerId). known_side y (h.known m) ≡ true) (sym (F.circs.agree m a).requester)
          (ap (λ b. b || same_peer (h.known m).endpoint (h.known m).requester) (same_refl (h.known m).requester))
      side Endpoint =
          subst (λ (y : HnsrPeerId). known_side y (h.known m) ≡ true) (sym (F.circs.agree m a).endpoint)
          (or-one (same_peer (h.known m).requester (h.known m).endpoint) _ (same_refl (h.known m).endpoint))

      before : (r : Route)
          → let x = r.context in let k = known_side p (h.known x) && known_side r.destination (h.known x) in
          (cond (eqb m x) false (h.active x) && k) ≡ true → (h.active x && k) ≡ true
      before r y = let x = r.context in let k = known_side p (h.known x) && known_side r.destination (h.known x) in
          let z = both (cond (eqb m x) false (h.active x)) k y in
          join (h.active x) k
          (split (eqb m x)
          (λ q. clash z.0 (ap (λ b. cond b false (h.active x)) q))
          (λ q. sym (ap (λ b. cond b false (h.active x)) q) ∙ z.0)) z.1

  -- ---- both: history's reading is what the machine labelled
  pub leaving_heard : {u : World} (w : World) (h : Past) → Keeps (λ i. known_side p (h.known i)) u w h → Leads h
      → config_of w ≡ h.head.config
      → let o =
      revoke_all (disconnect_pending p) (pending_of p) (revoke_circuit_there PeerDisconnected) (circuit_of p) w in
      sequence_of w + length o.routes < top 64 → heard_on_leaving p h [] o.routes ≡ map own o.routes
  unfolding revoke_all pending_of circuit_of
  leaving_heard {u} w h K leads conf low =
      let L = labelled-own (asked_side p) (known_side p) h in
      let first = walk pending_id pending_table (pending_of p) (disconnect_pending p) w in
      let second = walk circuit_id circuit_table (circuit_of p) (revoke_circuit_there PeerDisconnected) first.world in
      let a = walk-pending (known_side p) (λ opcode k. true) (λ x. same_peer x.requester p || same_peer x.endpoint p)
      (asked_side p) same_open (disconnect_pending p) (disconnecting p) own S u (λ w h rs. Unit {0}) (λ w h K n. tt)
      (λ w h m rs K a s l n. tt) (pending_of p) (λ x. refl) w h (K, L) in
      let b = walk-circuits (asked_side p) (λ opcode k. true) PeerDisconnected (is_side p) (known_side p) same-circuit
      own u
      (λ h rs. All (Shared h) rs)
      (λ h. tt)
      (λ w h m rs K a s n. more_shared w h m rs K.0.full a s n)
      (circuit_of p) (λ x. refl) first.world (parted_opens own h (asked_side p) first.routes) a.0 in
      let c = walk-pending (known_side p) (λ opcode k. true) (λ x. same_peer x.requester p || same_peer x.endpoint p)
      (asked_side p) same_open (disconnect_pending p) (disconnecting p) own S u (Heard S u second.routes)
      (λ w h K n. none-heard S u second.routes w h n)
      (λ w h m rs K a s l n. more_heard S u second.routes w h m rs K.0 a s l n) (pending_of p) (λ x. refl) w
      h (K, L) in
      let sum = length-append first.routes second.routes in
      (c.1.1 leads conf b.1 (omega arith)).0
    where
      S : ℕ → Bool
      S i = known_side p (h.known i)

      same_open : (x : RelayPending) (k : Asked) → AgreesP x k
          → (same_peer x.requester p || same_peer x.endpoint p) ≡ asked_side p k
      same_open x k A i = same_peer (A.requester i) p || same_peer (A.endpoint i) p

      same-circuit : (x : RelayCircuit) (k : Known) → Agrees x k → is_side p x ≡ known_side p k
      same-circuit x k A i = same_peer (A.requester i) p || same_peer (A.endpoint i) p
