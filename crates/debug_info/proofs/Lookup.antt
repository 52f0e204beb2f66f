-- The last row whose address isn't above a given one, seen from the end of the rows.
use Rattle.std.proofs.Common.{◌≡◌, ℕ, List, [], ◌∷◌, ◌++◌, length, ◌&&◌, ◌≤◌, ◌<◌, Option, Some, None, Bool, true, false, cond, leb, refl, ap, ◌∙◌}
use Rattle.std.specs.Option.{option_or}
use Rattle.debug_info.specs.declared.rows.SiteRow.{SiteRow}
use Rattle.std.proofs.lemmas.Bool.{le-leb, lt-leb}
use Rattle.std.specs.Str.{is_utf8}
use Rattle.debug_info.specs.Tables.{is_text}
use Rattle.debug_info.specs.Places.{last_not_above}

or_none : {X : Type 0} (o : Option X) → option_or o None ≡ o
or_none None = refl
or_none (Some x) = refl

or_assoc : {X : Type 0} (o p q : Option X) → option_or (option_or o p) q ≡ option_or o (option_or p q)
or_assoc None p q = refl
or_assoc (Some x) p q = refl

pub last_not_above-snoc : (pc : ℕ) (rows : List SiteRow) (r : SiteRow)
    → last_not_above pc (rows ++ r ∷ []) ≡ option_or (cond (leb r.pc pc) (Some r) None) (last_not_above pc rows)
last_not_above-snoc pc [] r = sym_or (cond (leb r.pc pc) (Some r) None)
  where
    sym_or : (o : Option SiteRow) → option_or None o ≡ option_or o None
    sym_or None = refl
    sym_or (Some x) = refl
last_not_above-snoc pc (x ∷ rows) r =
    let here = cond (leb x.pc pc) (Some x) None in
    ap (λ (o : Option SiteRow). option_or o here) (last_not_above-snoc pc rows r)
    ∙ or_assoc (cond (leb r.pc pc) (Some r) None) (last_not_above pc rows) here

-- a text that is UTF-8 is one by its length alone
pub is_text-long : (text bytes : List ℕ) → text ≡ bytes → is_utf8 text ≡ true → leb (length text) 1048576 ≡ is_text bytes
is_text-long text bytes e utf8 = rw (← e, utf8) (right_true (leb (length text) 1048576))
  where
    right_true : (b : Bool) → b ≡ (b && true)
    right_true true = refl
    right_true false = refl

pub last_here : (pc : ℕ) (rows before : List SiteRow) (r : SiteRow) → rows ≡ before ++ r ∷ [] → r.pc ≤ pc → last_not_above pc rows ≡ Some r
last_here pc rows before r e le =
    let yes : leb r.pc pc ≡ true = le-leb _ _ le in
    ap (last_not_above pc) e ∙ last_not_above-snoc pc before r ∙ rw yes refl

pub last_earlier : (pc : ℕ) (rows before : List SiteRow) (r : SiteRow) → rows ≡ before ++ r ∷ [] → pc < r.pc
    → last_not_above pc rows ≡ last_not_above pc before
last_earlier pc rows before r e lt =
    let no : leb r.pc pc ≡ false = lt-leb _ _ lt in
    ap (last_not_above pc) e ∙ last_not_above-snoc pc before r ∙ rw no (none_or (last_not_above pc before))
  where
    none_or : (o : Option SiteRow) → option_or None o ≡ o
    none_or o = refl
