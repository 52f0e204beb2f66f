use Rattle.std.proofs.Common.{string_bytes}
use Rattle.listing.proofs.Words.{Listed}
use Rattle.listing.proofs.text.listing.Given as goal

abbrev pub invariant-loop-k : goal.invariant-loop-k
invariant-loop-k l = Listed l.code (string_bytes l.text) l.k
