-- What an error prints.
use Rattle.std.specs.Prelude.{ℕ, List, ◌++◌, codes}
use Rattle.std.specs.Fmt.{decimal}
use Rattle.hns_encoding.specs.declared.decoder.DecodeError.{DecodeError}
use Rattle.hns_encoding.specs.declared.decoder.DecodeError.TheVariants.{UnexpectedEnd, TrailingBytes}
use Rattle.hns_encoding.specs.declared.encoder.NoRoom.{NoRoom}

abbrev pub error_text : DecodeError → List ℕ
error_text (UnexpectedEnd offset needed) =
    codes "ends early at " ++ decimal offset ++ codes "\nmissing " ++ decimal needed
error_text (TrailingBytes remaining) = codes "trailing " ++ decimal remaining

abbrev pub no_room_text : NoRoom → List ℕ
no_room_text r = codes "no room at " ++ decimal r.offset ++ codes "\nmissing " ++ decimal r.needed
