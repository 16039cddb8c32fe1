-- The opcodes of the messages that the relay handles and sends.
use Rattle.std.specs.Prelude.{ℕ}

abbrev pub op_open : ℕ
op_open = 13

abbrev pub op_incoming : ℕ
op_incoming = 14

abbrev pub op_accept : ℕ
op_accept = 15

abbrev pub op_opened : ℕ
op_opened = 16

abbrev pub op_data : ℕ
op_data = 17

abbrev pub op_window : ℕ
op_window = 18

abbrev pub op_close : ℕ
op_close = 19

abbrev pub op_error : ℕ
op_error = 20
