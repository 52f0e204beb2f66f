use Rattle.image.proofs.ImageLaws.{image_again}
use Rattle.image.proofs.laws.what_is_spelled_is_read.Goals as goal

pub returns : goal.returns
returns c = image_again
