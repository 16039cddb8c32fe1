-- How many words: a route is its head and its body's (OUT.4), the head is 40 for peers of 128 bytes, and what the calls
-- ask for follows from that (OUT.8). No notice of the relay's own is longer than was reckoned with.
use Rattle.std.specs.Prelude.{ℕ, ◌+◌, ◌-◌, ◌≤◌, ◌<◌, ◌≡◌, refl, true, false, List, ◌++◌, length, take}
use Rattle.std.specs.Prelude.{replicate}
use Rattle.std.proofs.Common.{arith, le-leb, sym, ap, ◌∙◌, take_at, length-append, length-drop}
use Rattle.hns_encoding.specs.Cursor.{within, written, written_at}
use Rattle.hns_encoding.specs.Laws.Tests.{on-true, on-false}
use Rattle.hns_encoding.specs.Laws.Lists.{written_behind, written-length}
use Rattle.hns_encoding.specs.Bytes.{be_bytes, le_bytes, padded}
use Rattle.hns_encoding.specs.Words.{words}
use Rattle.hns_encoding.specs.Laws.Bytes.{be_bytes-length}
use Rattle.hns_encoding.specs.Laws.Words.{words_of_length}
use Rattle.hnsr_body.specs.Detail.{detail_bytes}
use Rattle.hnsr_body.specs.declared.messages.Notice.{Notice}
use Rattle.hnsr_body.specs.declared.layout.Padded.{Padded}
use Rattle.hnsr_body.specs.declared.messages.Notice.TheVariants.{PeerDisconnected, ReservationRevoked}
use Rattle.hnsr_body.specs.declared.messages.Notice.TheVariants.{AcceptanceExpired, TicketExpired, RelayDisabled}
use Rattle.hnsr_body.specs.declared.messages.Notice.TheVariants.{EndpointWriteFailed, OuterWriteFailed}
use Rattle.hnsr_body.specs.Messages.{notice_body, notice_size, notice_written}
use Rattle.hnsr_circuit.specs.Peer.{peer_bytes}
use Rattle.hns_encoding.specs.Words.{word_count}
use Rattle.hnsr_circuit.specs.Route.{Route, name_words, address_words, head_words, peer_words}
use Rattle.hnsr_circuit.specs.Route.{packet_words, route_words, out_words, output}
use Rattle.hnsr_circuit.specs.Entry.{handle_words, acknowledge_words}

-- ---- the numbers of OUT.4 and OUT.8
pub head_is_40 : head_words ≡ 40
head_is_40 = refl

pub name_is_32 : name_words ≡ 32
name_is_32 = refl

pub handle_needs : handle_words ≡ 4136
handle_needs = refl

pub acknowledge_needs : acknowledge_words ≡ 96
acknowledge_needs = refl

pub notice_fits : (n : Notice) → length (notice_body n) ≤ notice_size
unfolding notice_body detail_bytes le_bytes
notice_fits PeerDisconnected = omega arith
notice_fits ReservationRevoked = omega arith
notice_fits AcceptanceExpired = omega arith
notice_fits TicketExpired = omega arith
notice_fits RelayDisabled = omega arith
notice_fits EndpointWriteFailed = omega arith
notice_fits OuterWriteFailed = omega arith

-- what is written of a notice: its body, in front of the array
pub notice_slice : (w : Padded notice_size) (n : Notice) → w ≡ notice_written n → take w.length w.bytes ≡ notice_body n
unfolding notice_written padded
notice_slice w n e =
    ap (λ (v : Padded notice_size). take v.length v.bytes) e
    ∙ take_at (notice_body n) (replicate (notice_size - length (notice_body n)) 0) (length (notice_body n)) refl

pub notice_short : (n : Notice) → length (notice_body n) < 65536
notice_short n = omega (arith, notice_fits n)

-- ---- bytes four to a word
pub length-words : (bs : List ℕ) → length (words bs) ≡ word_count (length bs)
length-words bs = words_of_length (word_count (length bs)) bs

-- ---- a route: its head, then its body
pub route-words : (r : Route) → length (route_words r) ≡ head_words + length (words r.body)
unfolding route_words peer_words packet_words
route-words r =
    simp length-append
    (omega (
      arith,
      words_of_length name_words (peer_bytes r.destination),
      length-words (be_bytes 8 r.context),
      be_bytes-length 8 r.context,
    ))

pub peer-words : (r : Route) → length (peer_words r) ≡ address_words
unfolding peer_words
peer-words r = simp length-append (omega (arith, words_of_length name_words (peer_bytes r.destination)))

pub packet-words : (r : Route) → length (packet_words r) ≡ 3 + length (words r.body)
unfolding packet_words
packet-words r =
    simp length-append (omega (arith, length-words (be_bytes 8 r.context), be_bytes-length 8 r.context))

-- ---- the output keeps its length where the words fit
pub output-length : (old : List ℕ) (rs : List Route) → length (out_words rs) ≤ length old
    → length (output old rs) ≡ length old
unfolding output
output-length old rs h = simp (length-append, length-drop) (omega arith)

-- ---- a run of fields from a place on: `now` has `done` there, which is n words; the first field, one field more, all
pub record Wrote (xs now done : List ℕ) (at n : ℕ) : Type 0 where
  pub same : now ≡ written_at xs at done
  pub size : length done ≡ n

pub wrote_first : {xs : List ℕ} (after ys : List ℕ) (at k : ℕ) → length ys ≡ k → at + k ≤ length xs
    → after ≡ written xs at ys
    → Wrote xs after ys at k
wrote_first {xs} after ys at k e l h = record {
  same = h ∙ on-true _ (written_at xs at ys) xs (le-leb (at + length ys) (length xs) (omega arith));
  size = e;
}

pub wrote_next : {xs before done : List ℕ} {at n : ℕ} (after ys : List ℕ) (k : ℕ) → Wrote xs before done at n
    → length ys ≡ k
    → at + n + k ≤ length xs → after ≡ written before (at + n) ys → Wrote xs after (done ++ ys) at (n + k)
wrote_next {xs} {before} {done} {at} {n} after ys k w e l h =
    let size = w.size in
    let long : length before ≡ length xs = ap length w.same ∙ written-length xs at done (omega arith) in
    let fits : within (length before) (at + n) (length ys) ≡ true =
    le-leb (at + n + length ys) (length before) (omega arith) in record {
      same =
          h
          ∙ on-true _ (written_at before (at + n) ys) before fits
          ∙ ap (λ (zs : List ℕ). written_at zs (at + n) ys) w.same
          ∙ written_behind xs at done ys (at + n) (omega arith) (omega arith);
      size = length-append done ys ∙ omega arith;
    }

pub wrote_all : {xs now done : List ℕ} {at n : ℕ} → Wrote xs now done at n → at + n ≤ length xs
    → now ≡ written xs at done
wrote_all {xs} {now} {done} {at} {n} w l =
    let size = w.size in
    w.same ∙ sym (on-true _ (written_at xs at done) xs (le-leb (at + length done) (length xs) (omega arith)))

-- what does not fit is not written
pub wrote_none : (xs ys : List ℕ) (at : ℕ) → within (length xs) at (length ys) ≡ false → xs ≡ written xs at ys
wrote_none xs ys at h = sym (on-false _ (written_at xs at ys) xs h)

-- how long a route and its parts are, for a tactic
pub ruleset route_laws = (length-words, route-words, peer-words, packet-words, written-length)
