-- What a call that is played finds: a mail that comes is by form, and the links are without it.
use Prim.Native.Nat.{ℕ}
use mathlib.Core.Path.{subst}
use Rattle.rules.specs.Box.{Letter, Event, own, mail}
use Rattle.rules.specs.Site.{Site}
use Rattle.laws.proofs.Types.{Call}
use Rattle.laws.proofs.Logic.{In, All, All-head}
use Rattle.laws.proofs.FormLaws.{FormedLetter, Formed}
use Rattle.laws.proofs.FrameLaws.{all_pop}
use Rattle.laws.proofs.View.{Links}
use Rattle.laws.proofs.StepLaws.{Plays, recovers, collects, readies, offers, proposes, agrees}
use Rattle.laws.proofs.StepLaws.{finishes, hears, trims, delivers}

abbrev pub Fit : ℕ → Event → Type 0
Fit J (own a) = Unit {0}
Fit J (mail a y) = FormedLetter J y

pub plays-fit : {s : Site} {c : ℕ} {d : Call} {e : Event} {link : Links} → Plays s c d e link
    → Formed s → In c s.n → Fit s.J e
plays-fit recovers f i = tt
plays-fit collects f i = tt
plays-fit readies f i = tt
plays-fit (offers l r) f i = tt
plays-fit proposes f i = tt
plays-fit agrees f i = tt
plays-fit finishes f i = tt
plays-fit hears f i = tt
plays-fit (trims k) f i = tt
plays-fit {s} {c} (delivers {a = a} ha ac e) f i =
    All-head (subst (All (FormedLetter s.J)) e (f.links a c ha i ac).letters)

pub plays-links : {s : Site} {c : ℕ} {d : Call} {e : Event} {link : Links} → Plays s c d e link
    → (P : ℕ → ℕ → Letter → Type 0) → ((a b : ℕ) → All (P a b) (s.link a b))
    → (a b : ℕ) → All (P a b) (link a b)
plays-links recovers P h = h
plays-links collects P h = h
plays-links readies P h = h
plays-links (offers l r) P h = h
plays-links proposes P h = h
plays-links agrees P h = h
plays-links finishes P h = h
plays-links hears P h = h
plays-links (trims k) P h = h
plays-links {s} {c} (delivers {a = a} ha ac e) P h = all_pop P s.link h a c
