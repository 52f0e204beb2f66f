-- The bytes that are written for a source.
use Rattle.std.proofs.Common.{sym, ap, subst, ◌∙◌}
use Rattle.std.specs.Prelude.{◌≡◌, ℕ, List, Ok, None}
use Rattle.core_form.specs.Reading.{tops_of}
use Rattle.core_form.specs.Lawful.{Parts, meant, IsLawful}
use Rattle.image.specs.Content.{Content, IsImage, spelling}
use Rattle.image.specs.Format.{image_of}
use Rattle.macroexpand.specs.Small.{IsSmall}
use Rattle.source_programs.specs.Programs.{IsProgramOf}
use Rattle.compiler.specs.Meets.{Meets}
use Rattle.compiler.specs.Parts.{image_of_forms}
use Rattle.compiler.specs.Compiled.{AreServed, IsCompiled}
use Rattle.compiler.specs.BuiltNodes.{first_unbuilt, BuiltProgramsMeet}

pub forms_served : BuiltProgramsMeet → (p : Parts) → IsLawful (meant p) → IsSmall (meant p) → first_unbuilt (meant p) ≡ None → AreServed (tops_of p.forms)
forms_served law p lawful small none = (law (meant p) lawful small none).served

pub compiled : BuiltProgramsMeet → ((i : Content) → IsImage i → image_of (spelling i) ≡ Ok i) → (source bytes : List ℕ) (p : Parts) (content : Content) →
    IsProgramOf source p → IsLawful (meant p) → IsSmall (meant p) → first_unbuilt (meant p) ≡ None →
    content ≡ image_of_forms (tops_of p.forms) → IsImage content → bytes ≡ spelling content → IsCompiled source bytes
compiled law reads source bytes p content is lawful small none made rules written = record {
  program = p;
  is_program = is;
  content = content;
  is_image = ap image_of written ∙ reads content rules;
  meets = subst (λ (x : Content). Meets (meant p) x) (sym made) (law (meant p) lawful small none).meets;
}
