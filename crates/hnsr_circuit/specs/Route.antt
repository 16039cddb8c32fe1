-- A queued route and its output words (OUT.3 to OUT.6).
use Rattle.std.specs.Prelude.{ℕ, ◌+◌, ◌*◌, List, [], ◌∷◌, ◌++◌, length, drop}
use Rattle.hns_encoding.specs.Bytes.{be_bytes}
use Rattle.hns_encoding.specs.Words.{word_count, words_of, words, high_low}
use Rattle.hnsr_circuit.specs.declared.peer.HnsrPeerId.{HnsrPeerId}
use Rattle.hnsr_circuit.specs.Peer.{peer_length, peer_bytes, maximum_peer}

-- the id of the circuit that it is about is not among the words
pub record Route : Type 0 where
  pub circuit : ℕ
  pub destination : HnsrPeerId
  pub generation : ℕ
  pub sequence : ℕ
  pub opcode : ℕ
  pub context : ℕ
  pub body : List ℕ

-- ---- how many words
abbrev pub name_words : ℕ
name_words = word_count maximum_peer

-- a kind word; generation and sequence; the peer
abbrev pub address_words : ℕ
address_words = 1 + 2 + 2 + name_words

-- and a kind word; the context
abbrev pub head_words : ℕ
head_words = address_words + 1 + 2

-- ---- which words: the four highest bits of a word that begins a part are its kind
abbrev pub kind_word : (kind rest : ℕ) → ℕ
kind_word kind rest = kind * 268435456 + rest

-- the address: kind and the name's length; generation, sequence; the name
unfoldable pub peer_words : Route → List ℕ
peer_words r =
    kind_word 1 (peer_length r.destination)
    ∷ (high_low r.generation ++ high_low r.sequence ++ words_of name_words (peer_bytes r.destination))

-- the packet: kind, opcode and the body's length; the context; the body
unfoldable pub packet_words : Route → List ℕ
packet_words r = kind_word 2 (r.opcode * 65536 + length r.body) ∷ (words (be_bytes 8 r.context) ++ words r.body)

unfoldable pub route_words : Route → List ℕ
route_words r = peer_words r ++ packet_words r

unfoldable pub out_words : List Route → List ℕ
out_words [] = []
out_words (r ∷ rs) = route_words r ++ out_words rs

-- the lent output after a call: words beyond stay. A refusal has no route, so it leaves the output untouched
unfoldable pub output : (old : List ℕ) → List Route → List ℕ
output old rs = out_words rs ++ drop (length (out_words rs)) old
