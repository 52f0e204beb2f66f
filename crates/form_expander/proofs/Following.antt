-- One step after another: what both give, and where one is refused.
use Rattle.std.proofs.Common.{◌≡◌, ap, ◌∙◌, Result, Ok, Err}
use Rattle.expansion.specs.Steps.{World, Answer, gives, Step, and_then}
use Rattle.form_expander.specs.declared.fault.Fault.{Fault}
use Rattle.form_expander.specs.declared.fault.Fault.TheVariants as fault
use Rattle.form_expander.specs.Outcomes.{Refuses, Follows}

-- refused in what an answer is the same as
pub refused_same : {A : Type 0} (m n : Answer A) (e : Fault) → n ≡ m → Refuses m e → Refuses n e
refused_same m n fault.Memory h k = k
refused_same m n (fault.Refused kind place) h k = h ∙ k

-- the first step is refused
pub first_refused : {A B : Type 0} (m : Answer A) (f : A → Step B) (e : Fault) → Refuses m e → Refuses (and_then m f) e
first_refused m f fault.Memory h = h
first_refused {A = A} m f (fault.Refused kind place) h = ap (λ (x : Answer A). and_then x f) h

-- the first step gives something
pub first_given : {A B : Type 0} (m : Answer A) (f : A → Step B) (a : A) (w : World) → m ≡ gives a w → and_then m f ≡ f a w
first_given {A = A} m f a w h = ap (λ (x : Answer A). and_then x f) h

pub second_refused : {A B : Type 0} (m : Answer A) (f : A → Step B) (a : A) (w : World) (e : Fault) → m ≡ gives a w → Refuses (f a w) e → Refuses (and_then m f) e
second_refused m f a w e h k = refused_same (f a w) (and_then m f) e (first_given m f a w h) k

pub both_given : {A B : Type 0} (m : Answer A) (f : A → Step B) (a : A) (w : World) (b : B) (v : World) → m ≡ gives a w → f a w ≡ gives b v → and_then m f ≡ gives b v
both_given m f a w b v h k = first_given m f a w h ∙ k

-- what follows the second step, after the first has given something
pub follows_second : {X A B : Type 0} (view : X → B) (m : Answer A) (f : A → Step B) (a : A) (w : World) (r : Result X Fault) (v : World) → m ≡ gives a w → Follows view (f a w) r v → Follows view (and_then m f) r v
follows_second view m f a w (Ok x) v h k = first_given m f a w h ∙ k
follows_second view m f a w (Err e) v h k = second_refused m f a w e h k

-- what follows an answer follows the same
pub follows_same : {X A : Type 0} (view : X → A) (m n : Answer A) (r : Result X Fault) (v : World) → n ≡ m → Follows view m r v → Follows view n r v
follows_same view m n (Ok x) v h k = h ∙ k
follows_same view m n (Err e) v h k = refused_same m n e h k
