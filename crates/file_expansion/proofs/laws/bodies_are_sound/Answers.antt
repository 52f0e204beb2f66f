use Rattle.file_expansion.proofs.Lawful.{bodies_are_sound}
use Rattle.file_expansion.proofs.laws.bodies_are_sound.Goals as goal

pub returns : goal.returns
returns c = bodies_are_sound c.parts_are_there.ensures.bodies c.there_are_data.ensures.given c.there_are_data.ensures.values c.places_are_there.ensures.places c.places_are_there.ensures.symbols c.places_are_there.ensures.reached
