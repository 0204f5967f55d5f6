-- The setting of an argument, by its bytes.
use Rattle.std.specs.Prelude.{ℕ, cond, List, drop, Some, None, codes, Option}
use Rattle.std.specs.Str.{bytes_eq}
use Rattle.panel.specs.declared.settings.Setting.{Setting}
use Rattle.panel.specs.declared.settings.Setting.TheVariants.{Fixed, Input, Fit, Unfit}
use Rattle.panel.specs.declared.words.Gap.TheVariants.{Mark}
use Rattle.panel.specs.Numbers.{at_most, number_of}
use Rattle.panel.specs.Words.{from_gap, up_to_gap}

abbrev pub fixed_from : Option ℕ → Option Setting
fixed_from None = None
fixed_from (Some count) = Some (Fixed count)

abbrev pub fit_from : Option ℕ → Option Setting
fit_from None = None
fit_from (Some port) = Some (Fit port)

abbrev pub unfit_from : Option ℕ → Option Setting
unfit_from None = None
unfit_from (Some port) = Some (Unfit port)

abbrev pub latch_from : Option ℕ → Option ℕ → Option Setting
latch_from None byte = None
latch_from (Some port) None = None
latch_from (Some port) (Some byte) = Some (Input port byte)

-- An input port, a colon (58) and a byte.
abbrev pub latch_of : List ℕ → Option Setting
latch_of v = latch_from (at_most 7 (number_of (up_to_gap (Mark 58) v))) (at_most 255 (number_of (drop 1 (from_gap (Mark 58) v))))

-- The setting of a name and a value.
abbrev pub setting_named : List ℕ → List ℕ → Option Setting
setting_named n v =
    cond (bytes_eq n (codes "fixed")) (fixed_from (number_of v))
    (cond (bytes_eq n (codes "input")) (latch_of v)
    (cond (bytes_eq n (codes "fit")) (fit_from (at_most 31 (number_of v)))
    (cond (bytes_eq n (codes "unfit")) (unfit_from (at_most 31 (number_of v))) None)))

-- A name, an equals sign (61) and a value.
abbrev pub setting_of : List ℕ → Option Setting
setting_of w = setting_named (up_to_gap (Mark 61) w) (drop 1 (from_gap (Mark 61) w))
