-- The box's rules for any caller: the ranges of form that their arithmetic rests on are looked at
-- first (refusal 1).
use Rattle.std.specs.Prelude.{ℕ, ◌+◌, ◌≤◌, Bool, ◌&&◌, leb, Option}
use Rattle.rules.specs.Sizes.{most_boxes, most_loads, most_number, most_pn}
use Rattle.rules.specs.Turns.{unless, settled}
use Rattle.rules.specs.Mails.{on_mail}
use Rattle.rules.specs.Steps.{acted}
use Rattle.rules.specs.Types.{Act, BoxState, Kept, Mail, Refusal, Setting, Turn, Verdict}

-- what a box keeps is in the ranges of form
abbrev pub BoundedKept : Kept → Type 0
BoundedKept k = (k.pn ≤ most_pn) × ((k.last ≤ most_number) × (k.first ≤ k.last + 1))

-- .. and what it knows of its site
abbrev pub BoundedSetting : Setting → Type 0
BoundedSetting s = (s.me ≤ most_boxes) × (s.j ≤ most_loads)

-- .. and a mail
abbrev pub BoundedMail : Mail → Type 0
BoundedMail m = (m.pn ≤ most_pn) × ((m.last ≤ most_number) × (m.first ≤ m.last + 1))

abbrev pub bounded : ℕ → ℕ → ℕ → Bool
bounded pn last first = leb pn most_pn && leb last most_number && leb first (last + 1)

unfoldable pub bounded_box : BoxState → Setting → Bool
bounded_box b s =
    bounded b.kept.pn b.kept.last b.kept.first && leb s.me most_boxes && leb s.j most_loads

unfoldable pub bounded_mail : Mail → Bool
bounded_mail m = bounded m.pn m.last m.first

unfoldable pub any_mail : BoxState → Setting → ℕ → Mail → ℕ → Option ℕ → Option ℕ → Turn
any_mail b s sender m one next mine =
    settled b (unless (bounded_box b s && bounded_mail m) Refusal.Form Verdict.Go)
    (on_mail b s sender m one next mine)

unfoldable pub any_act : BoxState → Setting → Act → Option ℕ → Turn
any_act b s a mine =
    settled b (unless (bounded_box b s) Refusal.Form Verdict.Go) (acted a b s mine)
