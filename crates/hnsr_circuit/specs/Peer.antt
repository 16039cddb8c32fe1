-- Names (HOST.1, HOST.2), and how a stored one is read (TAB.9).
-- The limit is the one constant from which the words of a peer, of a route and the outputs needed follow (Route,
-- Entry).
use Rattle.std.specs.Prelude.{ℕ, min, Bool, true, false, ◌&&◌, List, [], ◌∷◌, eqb, leb, length, take, replicate}
use Rattle.hns_encoding.specs.Bytes.{padded}
use Rattle.hnsr_circuit.specs.declared.peer.HnsrPeerId.{HnsrPeerId}

abbrev pub maximum_peer : ℕ
maximum_peer = 128

-- whether a peer of so many bytes is one
abbrev pub peer_good : (length : ℕ) → Bool
peer_good n = leb 1 n && leb n maximum_peer

-- the stored form of a name that the host gives: as many bytes as a name may have, zeros behind them. A longer name is
-- refused before it is stored
unfoldable pub peer_of : List ℕ → HnsrPeerId
peer_of name = record { len = length name; bytes = padded maximum_peer (take maximum_peer name) }

abbrev pub no_peer : HnsrPeerId
no_peer = record { len = 0; bytes = replicate maximum_peer 0 }

abbrev pub peer_length : HnsrPeerId → ℕ
peer_length p = min p.len maximum_peer

-- the name: what stands behind it in the record is never read
unfoldable pub peer_bytes : HnsrPeerId → List ℕ
peer_bytes p = take (peer_length p) p.bytes

unfoldable pub same_bytes : List ℕ → List ℕ → Bool
same_bytes [] [] = true
same_bytes [] (b ∷ bs) = false
same_bytes (x ∷ xs) [] = false
same_bytes (x ∷ xs) (b ∷ bs) = let rest = same_bytes xs bs in eqb x b && rest

unfoldable pub same_peer : HnsrPeerId → HnsrPeerId → Bool
same_peer p q = same_bytes (peer_bytes p) (peer_bytes q)
