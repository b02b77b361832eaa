-- Laws of the entries: what a refusal leaves, and what words and room that suit the state are.
use Prim.Native.Nat.{ℕ, ◌<◌, ◌≤◌}
use mathlib.Core.Path.{◌≡◌, refl, ap, sym, ◌∙◌, subst}
use mathlib.Core.Bool.{Bool, true, false, ◌&&◌}
use mathlib.Core.List.{List}
use lib.Dec.{leb}
use lib.ListN.{length}
use borrow.Author.Tests.{le-leb, lt-leb, leb-true}
use Rattle.std.proofs.Common.{Ok, Err, is_ok}
use Rattle.rules.specs.Answers.{is_refusal}
use Rattle.rules.specs.declared.model.Answer.{Answer}
use Rattle.rules.specs.declared.model.Refusal.{Refusal}
use Rattle.laws.proofs.Logic.{and_yes, and_both, both-no}
use Rattle.memory.specs.Memory.{site_words, links_words}
use Rattle.site.proofs.AfterLaws.{no_needs, need-met, need-not}
use Rattle.print.specs.Text.{Wrote}
use Rattle.trace.specs.Feeding.{end_text}
use Rattle.feed.specs.State.{course_text, feeding_of, formed, Lent}
use Rattle.feed.specs.Says.{Feeds, answer_most}
use Rattle.feed.specs.Entries.{has_room, piece_answer, PieceFed, end_answer, EndSaid}
use Rattle.feed.specs.declared.state.Fed.{Fed}
use Rattle.feed.specs.declared.state.Feed.{Feed}

-- by a test's answer
pub either : {P : Type 0} (b : Bool) → (b ≡ true → P) → (b ≡ false → P) → P
either true f g = f refl
either false f g = g refl

-- ---- a piece

refused_piece : (f : Feed) (piece xs ls x : List ℕ) (why : Refusal)
    → Answer.Refused why ≡ piece_answer f.stage xs ls x
    → PieceFed f piece xs ls xs ls x x (Err why)
refused_piece f piece xs ls x why e = record {
  answer = e;
  fed = λ g h. absurd (both-no (ap is_ok h) refl);
  kept = λ w h. record { site = refl; links = refl; bytes = refl };
}

module _ (f : Feed) (piece xs ls x : List ℕ) where
  pub not-formed : formed f.stage xs ls ≡ false → PieceFed f piece xs ls xs ls x x
      (Err Refusal.Form)
  unfolding piece_answer
  not-formed e = refused_piece f piece xs ls x Refusal.Form (sym (need-not _ _ _ _ _ e))

  pub no_room : formed f.stage xs ls ≡ true → has_room (length xs) (length ls) (length x) ≡ false
      → PieceFed f piece xs ls xs ls x x
      (Err Refusal.Buffer)
  unfolding piece_answer
  no_room e h =
      refused_piece f piece xs ls x Refusal.Buffer
      (sym (need-met _ _ _ _ _ e ∙ need-not _ _ _ _ _ h))

  pub suits : formed f.stage xs ls ≡ true
      → has_room (length xs) (length ls) (length x) ≡ true → Lent f.stage xs ls
  unfolding has_room
  suits e h =
      let words = leb (site_words 5 32) (length xs) && leb (links_words 5 32 8) (length ls) in
      let w = and_yes words (leb answer_most (length x)) h in
      let v = and_yes (leb (site_words 5 32) (length xs)) (leb (links_words 5 32 8) (length ls))
      w.0 in
      record { site = leb-true _ _ v.0; links = leb-true _ _ v.1; form = e }

  pub well_fed : (xs' ls' y : List ℕ) (g : Fed) → formed f.stage xs ls ≡ true
      → has_room (length xs) (length ls) (length x) ≡ true → Feeds f piece xs ls xs' ls' x y g
      → PieceFed f piece xs ls xs' ls' x y (Ok g)
  unfolding piece_answer
  well_fed xs' ls' y g e h w = record {
    answer = sym (need-met _ _ _ _ _ e ∙ (need-met _ _ _ _ _ h ∙ no_needs _ _));
    fed = λ k a. let same : g ≡ k = cc in
        subst (λ (k : Fed). Feeds f piece xs ls xs' ls' x y k) same w;
    kept = λ why a. absurd (both-no refl (ap is_ok a));
  }

  -- what `feed_formed` is required of and says is what `feed_piece` says, where one answer has room
  pub formed_piece : (xs' ls' y : List ℕ) (g : Fed) → Lent f.stage xs ls
      → answer_most ≤ length x → Feeds f piece xs ls xs' ls' x y g
      → PieceFed f piece xs ls xs' ls' x y (Ok g)
  unfolding has_room
  formed_piece xs' ls' y g lent room =
      well_fed xs' ls' y g lent.form
      (and_both (and_both (le-leb _ _ lent.site) (le-leb _ _ lent.links)) (le-leb _ _ room))

-- ---- the end

end-no : (x : List ℕ) → leb answer_most (length x) ≡ false
    → end_answer x ≡ Answer.Refused Refusal.Buffer
unfolding end_answer
end-no x e = need-not _ _ _ _ _ e

pub end-room : (x : List ℕ) → is_refusal (end_answer x) ≡ false → answer_most ≤ length x
end-room x a = either (leb answer_most (length x)) (leb-true answer_most (length x))
    (λ e. absurd (both-no (ap is_refusal (end-no x e)) a))

pub end_short : (f : Feed) (x : List ℕ) → length x < answer_most
    → EndSaid f x x (Err Refusal.Buffer)
end_short f x h = record {
  answer = sym (end-no x (lt-leb answer_most (length x) h));
  said = λ at a. absurd (both-no (ap is_ok a) refl);
  kept = λ why a. refl;
}

pub end-said : (f : Feed) (x y : List ℕ) (at : ℕ) → answer_most ≤ length x → ((xs ls : List ℕ)
    → Wrote answer_most x y 0 at (end_text course_text (feeding_of f xs ls)))
    → EndSaid f x y (Ok at)
unfolding end_answer
end-said f x y at h w = record {
  answer = sym (need-met _ _ _ _ _ (le-leb answer_most (length x) h) ∙ no_needs _ _);
  said = λ k a xs ls.
      let same : at ≡ k = cc in
      subst (λ (k : ℕ). Wrote answer_most x y 0 k (end_text course_text (feeding_of f xs ls))) same
      (w xs ls);
  kept = λ why a. absurd (both-no refl (ap is_ok a));
}
