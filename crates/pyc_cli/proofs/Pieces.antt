-- Bytes moved by one call after another.
use Rattle.std.proofs.Common.{◌≡◌, ℕ, ◌+◌, ◌≤◌, List, [], ◌++◌, length, take, drop, Option, None, Some, Bool, true, false, refl, sym, ap, ◌∙◌, arith, append_assoc, rules}
use Rattle.std.proofs.lemmas.List.{take-append-drop, length-append}
use Rattle.outside_io.specs.Views.{Sunk, gained, untaken}
use Rattle.pyc_cli.specs.Moved.{TakesFront, IsCut}

-- a front of a piece was put so far, and this is the rest
pub record PutFront (old new : Sunk) (piece rest : List ℕ) : Type 0 where
  pub front : List ℕ
  pub piece_is : piece ≡ front ++ rest
  pub held : new.held ≡ gained old.held front
  pub faults : old.faults ≤ new.faults
  pub wants : old.wants ≤ new.wants

-- nothing gained
pub gained_none : (held : Option (List ℕ)) → held ≡ gained held []
gained_none None = refl
gained_none (Some held) = ap Some (search rules)

-- one gain and then another are one of both
pub gained_twice : (held : Option (List ℕ)) (a b : List ℕ) → gained (gained held a) b ≡ gained held (a ++ b)
gained_twice None a b = refl
gained_twice (Some held) a b = ap Some (append_assoc held a b)

pub untaken_twice : (a b : List ℕ) (left : Option (List ℕ)) → untaken a (untaken b left) ≡ untaken (a ++ b) left
untaken_twice a b None = refl
untaken_twice a b (Some left) = ap Some (sym (append_assoc a b left))

-- a front of the input was taken by some calls
pub front_taken : (bytes : List ℕ) (old mid new : Option (List ℕ)) → old ≡ untaken bytes mid → length bytes ≤ 16777217 → new ≡ mid → TakesFront old new
front_taken bytes old mid new taken few same = record { bytes = bytes; few = few; taken = taken ∙ ap (λ (l : Option (List ℕ)). untaken bytes l) (sym same) }

-- and some more of it by one more
pub front_more : (bytes piece : List ℕ) (most : ℕ) (old mid new : Option (List ℕ)) → old ≡ untaken bytes mid → length piece ≤ most → length bytes + most ≤ 16777217 → mid ≡ untaken piece new → TakesFront old new
front_more bytes piece most old mid new taken short few more = record {
  bytes = bytes ++ piece;
  few = let both : length (bytes ++ piece) ≡ length bytes + length piece = length-append bytes piece in omega arith;
  taken = taken ∙ ap (λ (l : Option (List ℕ)). untaken bytes l) more ∙ untaken_twice bytes piece new;
}

untaken_none : (left : Option (List ℕ)) → left ≡ untaken [] left
untaken_none None = refl
untaken_none (Some left) = refl

-- nothing was taken
pub front_stays : (left : Option (List ℕ)) → TakesFront left left
front_stays left = record { bytes = []; few = omega arith; taken = untaken_none left }

pub cut_stays : (takes : Bool) (left : Option (List ℕ)) → IsCut takes left left
cut_stays takes left = record { front = front_stays left; none = λ h. refl }

-- something may be taken
pub cut_front : (takes : Bool) (old new : Option (List ℕ)) → takes ≡ true → TakesFront old new → IsCut takes old new
cut_front takes old new is front = record { front = front; none = λ h. (let no_way : true ≡ false = sym is ∙ h in cc) }

-- nothing of it is put yet
pub put_nothing : (sunk : Sunk) (piece : List ℕ) → PutFront sunk sunk piece piece
put_nothing sunk piece = record {
  front = [];
  piece_is = refl;
  held = gained_none sunk.held;
  faults = omega arith;
  wants = omega arith;
}

-- some more of it is put
pub put_more : (old mid new : Sunk) (piece rest rest' : List ℕ) (n : ℕ) → PutFront old mid piece rest → new.held ≡ gained mid.held (take n rest) → mid.faults ≤ new.faults → mid.wants ≤ new.wants → rest' ≡ drop n rest → PutFront old new piece rest'
put_more old mid new piece rest rest' n so_far gains faults wants is = record {
  front = so_far.front ++ take n rest;
  piece_is = so_far.piece_is ∙ ap (λ (l : List ℕ). so_far.front ++ l) (sym (take-append-drop n rest)) ∙ sym (append_assoc so_far.front (take n rest) (drop n rest)) ∙ ap (λ (l : List ℕ). (so_far.front ++ take n rest) ++ l) (sym is);
  held = gains ∙ ap (λ (h : Option (List ℕ)). gained h (take n rest)) so_far.held ∙ gained_twice old.held so_far.front (take n rest);
  faults = let f = so_far.faults in omega arith;
  wants = let w = so_far.wants in omega arith;
}
