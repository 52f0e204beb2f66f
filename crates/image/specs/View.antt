-- An image and its header without where they lie in memory.
use Rattle.image.specs.declared.image.Image.{Image}
use Rattle.image.specs.declared.reading.Lengths.{Lengths}
use Rattle.image.specs.Content.{Content, content}
use Rattle.image.specs.Format.{Header}

abbrev pub view : Image → Content
view i = content i.code.items i.statics.items i.debug i.entry

abbrev pub header : Lengths → Header
header l = record { code = l.code; statics = l.statics; debug = l.debug; entry = l.entry }
