use Rattle.std.proofs.Common.{◌≡◌, ◌++◌, ◌∷◌, [], None, refl, sym}
use Rattle.std.proofs.lemmas.List.{map_push}
use Rattle.std.specs.String.{string_bytes}
use Rattle.debug_info.specs.Texts.{bytes_of}
use Rattle.image.specs.Rows.{text_row}
use Rattle.image.proofs.Loop.{goes_on, ends, is_done}
use Rattle.image.proofs.tables.text_rows.Goals as goal

pub returns-in_default : goal.returns-in_default
returns-in_default c =
    rw c.wrong.ensures (ends (λ _ rest. text_row rest) (λ _. None) c.args.end (bytes_of c.loop.texts.items) c.args.count c.loop.counter None c.loop.rest.now _ c.loop-test.true (sym c.in_default.ensures) c.loop.invariant)

pub loop-preserved : goal.loop-preserved
loop-preserved c =
    let e : bytes_of c.push.new.self.items ≡ bytes_of c.loop.texts.items ++ c.in-Some.text.now ∷ []
    = rw (c.in_ok-push.ensures.items, map_push string_bytes c.loop.texts.items c.in_ok-text.text, c.in_ok-text.ensures.ok) refl in
    rw e (goes_on (λ _ rest. text_row rest) (λ _. None) c.args.end (bytes_of c.loop.texts.items) c.args.count c.loop.counter None c.loop.rest.now c.in-Some.text.now c.in-Some.after.now _ c.loop-test.true (sym c.in-Some.ensures) c.loop.invariant)

pub returns : goal.returns
returns c =
    is_done (λ _ rest. text_row rest) (λ _. None) c.args.end (bytes_of c.loop.texts.items) c.args.count c.loop.counter None c.loop.rest.now _ c.loop-test.false c.loop.invariant
