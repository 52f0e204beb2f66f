-- The image of forms that are served does what their program does.
use Rattle.compiler.specs.Compiled.{ImagesMeet}
use Rattle.compiler.proofs.Theorem.{image_meets}

pub forms_meet : ImagesMeet
forms_meet p names h = image_meets p names h.served h.near h.short
