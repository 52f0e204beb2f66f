-- What the compiler gives: the image of a source that is a program, and that it does what the program does.
use Rattle.std.specs.Prelude.{◌≡◌, ◌<◌, ◌*◌, ◌^◌, All, List, length, true, Ok, ℕ}
use Rattle.core_form.specs.Tree.{Top}
use Rattle.core_form.specs.Eval.{Program}
use Rattle.core_form.specs.Lawful.{Parts, meant}
use Rattle.source_programs.specs.Programs.{IsProgramOf}
use Rattle.image.specs.Content.{Content}
use Rattle.image.specs.Format.{image_of}
use Rattle.compiler.specs.Code.{code_of, forms_served, program_code}
use Rattle.compiler.specs.Meets.{Meets}
use Rattle.compiler.specs.Parts.{image_of_forms, BeginsWithNames}

-- a form's jumps, which lead from one of its instructions to another, reach all of its code
abbrev pub IsNear : Top → Type 0
IsNear t = 4 * length (code_of t.core) < 2 ^ 20

-- forms that the first path serves, each with its code in reach of its jumps, and all with no more code than an image holds
pub record AreServed (forms : List Top) : Type 0 where
  pub served : forms_served forms ≡ true
  pub near : All IsNear forms
  pub short : length (program_code forms) < 2 ^ 22

-- the source is a program, the bytes are an image, and the image does what the program does
pub record IsCompiled (source bytes : List ℕ) : Type 0 where
  pub program : Parts
  pub is_program : IsProgramOf source program
  pub content : Content
  pub is_image : image_of bytes ≡ Ok content
  pub meets : Meets (meant program) content

-- the image of any forms that are served does what their program does, where that begins with the symbols NIL and T
abbrev pub ImagesMeet : Type 0
ImagesMeet = (p : Program) → BeginsWithNames p.symbols → AreServed p.forms → Meets p (image_of_forms p.forms)
