-- Whole files.
use Rattle.std.proofs.Common.{◌≡◌, ◌≤◌, ℕ, List, [], ◌∷◌, ◌+◌, length-append, length, refl, sym, ap, ◌∙◌, Ok, Err}
use Rattle.std.specs.Str.{IsUtf8, chars, encode_utf8_all}
use Rattle.std.proofs.lemmas.Str.{encodes-chars, length-encode}
use Rattle.std.specs.Char.{encode_utf8}
use Rattle.lisp_reader.proofs.Steps.{utf8_cons}
use Rattle.lisp_reader.specs.Tokens.{Placed, utf8_length}
use Rattle.lisp_reader.specs.Trees.{none}
use Rattle.lisp_reader.specs.Building.{Stock}
use Rattle.lisp_reader.specs.Reading.{Refusal}
use Rattle.lisp_reader.specs.Machine.{World, world, run}
use Rattle.lisp_reader.specs.Answers.{Reads, IsRefusedAt, no_form, greatest_length, file_tokens, text_tokens}
use Rattle.lisp_reader.proofs.Standing.{Stands}
use Rattle.lisp_reader.proofs.Sound.{run_reads, run_refuses}

begins : (s : Stock) → Stands s [] (world [] [] s)
begins s = record { forms_so_far = none; begun = []; fit = tt; spelled = refl; held = (refl, refl) }

pub reads_whole : (bytes : List ℕ) (s : Stock) (w : World) (end : ℕ) → length bytes ≤ greatest_length → IsUtf8 bytes → run (world [] [] s) end (file_tokens bytes) ≡ Ok w → Reads bytes s (w.tops, w.stock)
reads_whole bytes s w end short text e = record { short = short; text = text; grammar = (run_reads s [] (file_tokens bytes) (world [] [] s) w end (begins s) e).1 }

pub refuses_whole : (bytes : List ℕ) (s : Stock) (r : Refusal) → length bytes ≤ greatest_length → IsUtf8 bytes → run (world [] [] s) (length bytes) (file_tokens bytes) ≡ Err r → IsRefusedAt bytes s r
refuses_whole bytes s r short text e = no_form short text (run_refuses s [] (file_tokens bytes) (world [] [] s) r (length bytes) (begins s) e)

-- ---- lengths

utf8_of : (cs : List ℕ) → length (encode_utf8_all cs) ≡ utf8_length cs
utf8_of [] = refl
utf8_of (c ∷ cs) = length-append (encode_utf8 c) (encode_utf8_all cs) ∙ ((λ i. length-encode c i + utf8_of cs i) ∙ sym (utf8_cons c cs))

pub bytes_of : (bytes : List ℕ) → IsUtf8 bytes → utf8_length (chars bytes) ≡ length bytes
bytes_of bytes text = sym (utf8_of (chars bytes)) ∙ ap length (encodes-chars bytes text)

-- what the code reads is the file's text
pub tokens_of_file : (bytes text letters : List ℕ) (ps : List Placed) → text ≡ bytes → letters ≡ chars text → ps ≡ text_tokens letters → ps ≡ file_tokens bytes
unfolding file_tokens
tokens_of_file bytes text letters ps a b c = c ∙ ap text_tokens (b ∙ ap chars a)
