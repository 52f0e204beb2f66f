-- One name that opens the steps of an expansion (this project's own).
use Rattle.expansion.specs.Steps.{◌>>=◌, ◌>>◌, pure, refuse, given_or, expect, only_if, look, change}

unfoldable pub steps : Unit {0}
unfolding ◌>>=◌ ◌>>◌ pure refuse given_or expect only_if look change
steps = tt
