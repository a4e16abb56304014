-- Need not be believed: helps proofs and other laws.
-- A buffer that is handed on from packet to packet.
use Rattle.std.specs.Prelude.{ℕ, ◌+◌, ◌-◌, max, List, [], length}
use Rattle.pkt_buf.specs.BufferView.{Buffer}

-- how many bytes a buffer has in all, spare or not
abbrev pub whole_len : Buffer → ℕ
whole_len b = b.front + length b.bytes

-- a buffer with none but spare bytes
abbrev pub emptied : Buffer → Buffer
emptied old = record { bytes = []; front = whole_len old }

-- a buffer with other bytes, and with at least so many spare in front of them: as many in all as there were, where these are enough
abbrev pub refilled : ℕ → List ℕ → Buffer → Buffer
refilled spare bytes old = record { bytes = bytes; front = max (spare + length bytes) (whole_len old) - length bytes }
