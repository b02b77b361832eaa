-- Laws of the words that lines leave: those past the site's own, and every word where no line is
-- done.
use Prim.Native.Nat.{ℕ}
use mathlib.Core.Path.{◌≡◌, refl, ap, sym, ◌∙◌, subst}
use mathlib.Core.Bool.{Bool, true, false}
use mathlib.Core.List.{List, [], ◌∷◌, ◌++◌}
use Rattle.rules.specs.Site.{Site}
use Rattle.rules.specs.Step.{step, holds}
use Rattle.rules.specs.declared.model.Answer.{Answer}
use Rattle.laws.proofs.Logic.{true≠false, pick_elim}
use Rattle.laws.proofs.StepLaws.{SameSizes, sizes_step}
use Rattle.memory.specs.Memory.{past_site, past_links, site_of}
use Rattle.lines.specs.declared.Line.{Line}
use Rattle.trace.specs.Replay.{Told, told, played, judged}
use Rattle.feed.specs.State.{told_site, line_site, run_of, Untouched, Past}
use Rattle.feed.specs.declared.state.Stage.{Stage}

-- ---- no marks

is-nil : List ℕ → Bool
is-nil [] = true
is-nil (x ∷ l) = false

pub some-not-none : (x : ℕ) (l : List ℕ) → x ∷ l ≡ [] → ⊥
unfolding is-nil
some-not-none x l e = true≠false (sym (ap is-nil e))

pub none_both : (a b : List ℕ) → a ++ b ≡ [] → (a ≡ []) × (b ≡ [])
none_both [] b e = (refl, e)
none_both (x ∷ a) b e = absurd (some-not-none x (a ++ b) e)

-- ---- sizes: a line after the site line leaves them

same-sizes : (s : Site) → SameSizes s s
same-sizes s = record { n = refl; J = refl; L = refl }

sizes-told : (a : Answer) (s t : Site) → SameSizes s t → SameSizes s (told_site s (told a t))
unfolding told_site
sizes-told Answer.Done s t z = z
sizes-told Answer.Taken s t z = z
sizes-told (Answer.Discarded why) s t z = z
sizes-told (Answer.Refused why) s t z = same-sizes s

sizes-played : (s : Site) (l : Line) → SameSizes s (told_site s (played s l))
unfolding told_site played
sizes-played s (Line.Site n J L) = same-sizes s
sizes-played s (Line.Call c) = sizes-told (step s c).answer s (step s c).next (sizes_step s c)
sizes-played s (Line.Holds c i left right) =
    sizes-told (holds s c i left right) s s (same-sizes s)
sizes-played s Line.Unreadable = same-sizes s

sizes-judged : (k : ℕ) (s : Site) (l : Line) → SameSizes s (told_site s (judged k s l))
unfolding told_site judged
sizes-judged k s l =
    pick_elim (λ (q : Told). SameSizes s (told_site s q)) _ (λ e. sizes-played s l)
    (λ e. same-sizes s)

-- ---- words past the site's own

module _ {xs₀ ls₀ xs ls xs' ls' : List ℕ} (new : Past xs ls xs' ls') where
  beyond : Past xs₀ ls₀ xs ls → SameSizes (site_of xs ls) (site_of xs' ls') → Past xs₀ ls₀ xs' ls'
  beyond old z = record {
    site =
        new.site ∙ ((λ t. past_site (z.n t) (z.J t) xs)
        ∙ (old.site ∙ sym (λ t. past_site (z.n t) (z.J t) xs₀)));
    links =
        new.links ∙ ((λ t. past_links (z.n t) (z.J t) (z.L t) ls)
        ∙ (old.links ∙ sym (λ t. past_links (z.n t) (z.J t) (z.L t) ls₀)));
  }

  -- one line more, at a stage: before the site line nothing was touched
  pub past-on : (t : Stage) (k : ℕ) (l : Line) → (t ≡ Stage.First → Untouched xs₀ ls₀ xs ls)
      → Past xs₀ ls₀ xs ls → site_of xs' ls' ≡ line_site (run_of t k (site_of xs ls))
      (site_of xs ls) l
      → Past xs₀ ls₀ xs' ls'
  unfolding line_site
  past-on Stage.First k l first old e =
      let u = first refl in
      let s = site_of xs' ls' in
      record {
        site = new.site ∙ ap (past_site s.n s.J) u.0;
        links = new.links ∙ ap (past_links s.n s.J s.L) u.1;
      }
  past-on Stage.Going k l first old e =
      beyond old (subst (SameSizes (site_of xs ls)) (sym e) (sizes-judged k (site_of xs ls) l))
  past-on Stage.Ended k l first old e =
      beyond old (subst (SameSizes (site_of xs ls)) (sym e) (same-sizes (site_of xs ls)))
