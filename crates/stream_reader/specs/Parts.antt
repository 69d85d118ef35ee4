-- What contracts see of a reader.
use Rattle.std.specs.Prelude.{take, drop}
use Rattle.byte_source.specs.declared.source.ByteSource.{Ghosts}
use Rattle.stream_reader.specs.Telling.{StreamView}
use Rattle.stream_reader.specs.declared.stream_reader.StreamReader.{StreamReader}

-- the bytes that were looked at and those that weren't, what was told, and whether nothing more is
abbrev pub view_of : {S : Type 0} {G : Ghosts S} → StreamReader S G → StreamView
view_of reader = record {
  looked = reader.looked.items;
  at_hand = drop reader.at (take reader.filled reader.piece.items);
  rows = reader.rows.items;
  names = reader.parser.at.form.symbols;
  over = reader.parser.over;
}
