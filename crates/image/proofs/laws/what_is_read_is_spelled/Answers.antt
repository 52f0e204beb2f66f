use Rattle.image.proofs.ImageLaws.{image_takes}
use Rattle.image.proofs.laws.what_is_read_is_spelled.Goals as goal

pub returns : goal.returns
returns c = λ bytes i fits e. let r = image_takes bytes i fits e in (r.rules, r.spelled)
