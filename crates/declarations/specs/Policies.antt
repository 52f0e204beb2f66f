-- What OPTIMIZE sets: qualities, each to a number from 0 to 3 (ANSI Common Lisp, the entry of OPTIMIZE).
use Rattle.std.specs.Prelude.{ℕ, pos, negsuc, Bool, ◌||◌, ◌==◌, nat_lt, nat_le, List, Option, Some, None, if◌then◌else◌}
use Rattle.std.specs.Option.{option_map, option_and_then}
use Rattle.lisp_base.specs.declared.values.Val.{Val}
use Rattle.lisp_base.specs.declared.values.Val.TheVariants.{Int, Char, Sym, Ref}
use Rattle.lisp_base.specs.declared.values.SymId.{SymId}
use Rattle.lisp_base.specs.declared.base_symbols.TheConstants as at
use Rattle.lisp_base.specs.Sort.{number_of}
use Rattle.lisp_base.specs.Tables.{Object}
use Rattle.lisp_forms.specs.Conses.{is_nil, cons_at}
use Rattle.declarations.specs.declared.policy.Policy.{Policy}
use Rattle.declarations.specs.declared.policy.Quality.{Quality}
use Rattle.declarations.specs.declared.policy.Quality.TheVariants as q
use Rattle.declarations.specs.declared.policy.Setting.{Setting}

abbrev pub is_same : SymId → SymId → Bool
is_same s t = number_of s == number_of t

-- the quality of a name
unfoldable pub quality_named : SymId → Option Quality
quality_named s =
    if is_same s at.SPEED then Some q.Speed else
    (if is_same s at.SAFETY then Some q.Safety else
    (if is_same s at.SPACE || (is_same s at.DEBUG || is_same s at.COMPILATION_SPEED) then Some q.Other else None))

abbrev pub quality_of : Val → Option Quality
quality_of (Int z) = None
quality_of (Char c) = None
quality_of (Sym s) = quality_named s
quality_of (Ref o) = None

abbrev pub level_of : Val → Option ℕ
level_of (Int (pos n)) = if nat_le n 3 then Some n else None
level_of (Int (negsuc n)) = None
level_of (Char c) = None
level_of (Sym s) = None
level_of (Ref o) = None

abbrev pub setting : Quality → ℕ → Setting
setting quality level = record { quality = quality; level = level }

-- the element of a list of one
abbrev pub only_of : List Object → Val → Option Val
only_of heap v = option_and_then (λ p. if is_nil p.1 then Some p.0 else None) (cons_at heap v)

-- a list of a quality and a number
abbrev pub listed_setting : List Object → Val → Option Setting
listed_setting heap v =
    option_and_then (λ p. option_and_then (λ quality. option_map (setting quality) (option_and_then level_of (only_of heap p.1))) (quality_of p.0)) (cons_at heap v)

abbrev pub setting_or : Option Setting → Option Quality → Option Setting
setting_or other None = other
setting_or other (Some quality) = Some (setting quality 3)

-- a bare name means 3
abbrev pub setting_of : List Object → Val → Option Setting
setting_of heap v = setting_or (listed_setting heap v) (quality_of v)

-- all qualities but SPEED and SAFETY have no effect
abbrev pub with_quality : Quality → ℕ → Policy → Policy
with_quality q.Speed n p = record { speed = n; safety = p.safety }
with_quality q.Safety n p = record { speed = p.speed; safety = n }
with_quality q.Other n p = p

-- a policy that is refused
abbrev pub is_refused : Policy → Bool
is_refused p = (p.safety == 0) || nat_lt p.safety p.speed
