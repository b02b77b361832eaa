-- Nothing else could satisfy what `drive` says: two results of one script on the same words have
-- one answer, the same answers to its questions, one site, and the same words past the site's
-- own.
use Prim.Native.Nat.{ℕ, zero, suc, ◌+◌, ◌*◌, ◌<◌, ◌≤◌}
use mathlib.Core.Path.{◌≡◌, refl, sym, ap, ◌∙◌, subst}
use mathlib.Core.Bool.{Bool, true, false, cond}
use mathlib.Core.List.{List, [], ◌∷◌, tail}
use native.Mathlib.Omega.{arith}
use lib.Dec.{ltb}
use lib.ListN.{length, get_or}
use lib.Seq.{ext_get_or}
use Rattle.rules.specs.Answers.{is_refusal}
use Rattle.rules.specs.Numbers.{answer_number}
use Rattle.rules.specs.Step.{step, run, holds}
use Rattle.rules.specs.declared.model.Answer.{Answer}
use Rattle.rules.specs.declared.model.Call.{Call}
use Rattle.rules.specs.Site.{Site}
use Rattle.laws.proofs.Logic.{Or, left, right, below?, decide, both-no}
use Rattle.memory.specs.Memory.{past_site, past_links, site_of}
use Rattle.safety.specs.Demand3.{start}
use Rattle.said.specs.Said.{Said, called, held, calls, Talk, retold}
use Rattle.said.specs.Spoken.{Spoken, begun, stepped, asked}
use Rattle.said.proofs.Past.{run_is}
use Rattle.said.proofs.Retold.{same-calls}
use Rattle.engine_safety.proofs.Filed.{holds-run}
use Rattle.drive.specs.Script.{call_of, asking, said_at, talk_of}
use Rattle.drive.specs.Driven.{Asked, Driven}

-- ---- the questions say what the answers are

-- the questions alone: every answer is 0
abbrev questions : {A : Type 0} → List (Said A) → List (Said ℕ)
questions h = retold (λ a. 0) h

module _ (n J L : ℕ) where
  -- .. and what the rules answer to them
  answered : List (Said ℕ) → Talk
  answered [] = []
  answered (called d a ∷ h) =
      called d (step (run (start n J L) (calls h)) d).answer ∷ answered h
  answered (held b k l r a ∷ h) =
      held b k l r (holds (run (start n J L) (calls h)) b k l r) ∷ answered h

  site-said : {h : Talk} {s : Site} → Spoken n J L h s
      → s ≡ run (start n J L) (calls (questions h))
  site-said {h} p = run_is p ∙ ap (run (start n J L)) (sym (same-calls (λ a. 0) h))

  all_said : {h : Talk} {s : Site} → Spoken n J L h s → h ≡ answered (questions h)
  unfolding answered
  all_said (begun z) = refl
  all_said (stepped d f p) = λ t. called d (step (site-said p t) d).answer ∷ all_said p t
  all_said (asked b k l r p) = λ t. held b k l r (holds (site-said p t) b k l r) ∷ all_said p t

questions-retold : (h : Talk) → questions (retold answer_number h) ≡ questions h
questions-retold [] = refl
questions-retold (called d a ∷ h) = ap (λ q. called d 0 ∷ q) (questions-retold h)
questions-retold (held b k l r a ∷ h) = ap (λ q. held b k l r 0 ∷ q) (questions-retold h)

-- ---- a script has its questions, whatever the answers are

latest-answer : List (Said ℕ) → ℕ
latest-answer [] = 0
latest-answer (called d a ∷ h) = a
latest-answer (held b k l r a ∷ h) = a

module _ (d : Call) (b k l r : ℕ) where
  abbrev one : Bool → ℕ → Said ℕ
  one t x = cond t (called d x) (held b k l r x)

  one_question : (t : Bool) (x y : ℕ) (g h : List (Said ℕ)) → questions g ≡ questions h
      → questions (one t x ∷ g) ≡ questions (one t y ∷ h)
  one_question true x y g h e = ap (λ q. called d 0 ∷ q) e
  one_question false x y g h e = ap (λ q. held b k l r 0 ∷ q) e

  one_answer : (t : Bool) (x : ℕ) (h : List (Said ℕ)) → latest-answer (one t x ∷ h) ≡ x
  unfolding latest-answer
  one_answer true x h = refl
  one_answer false x h = refl

module _ (which a b c d : ℕ) where
  asked_question : (x y : ℕ) (g h : List (Said ℕ)) → questions g ≡ questions h
      → questions (asking which a b c d x ∷ g) ≡ questions (asking which a b c d y ∷ h)
  unfolding asking
  asked_question = one_question (call_of which a b c) a b c d (ltb which 16)

  asked-answer : (x : ℕ) (h : List (Said ℕ)) → latest-answer (asking which a b c d x ∷ h) ≡ x
  unfolding asking
  asked-answer = one_answer (call_of which a b c) a b c d (ltb which 16)

module _ (script : List ℕ) where
  -- number i of question m
  abbrev at : ℕ → ℕ → ℕ
  at m i = get_or script (m * 5 + i) 0

  same-questions : (p q : List ℕ) (m : ℕ)
      → questions (talk_of script p m) ≡ questions (talk_of script q m)
  unfolding talk_of
  same-questions p q zero = refl
  same-questions p q (suc m) =
      asked_question (get_or script (m * 5) 0) (at m 1) (at m 2) (at m 3) (at m 4) (get_or p m 0)
      (get_or q m 0) (talk_of script p m) (talk_of script q m) (same-questions p q m)

  latest-same : (p q : List ℕ) (m : ℕ) → talk_of script p (suc m) ≡ talk_of script q (suc m)
      → get_or p m 0 ≡ get_or q m 0
  unfolding talk_of
  latest-same p q m e = sym (latest p) ∙ ap latest-answer e ∙ latest q
    where
      latest : (r : List ℕ)
          → latest-answer (said_at script m (get_or r m 0) ∷ talk_of script r m) ≡ get_or r m 0
      latest r =
          asked-answer (get_or script (m * 5) 0) (at m 1) (at m 2) (at m 3) (at m 4) (get_or r m 0)
          (talk_of script r m)

  same-answers : (p q : List ℕ) (m : ℕ) → talk_of script p m ≡ talk_of script q m
      → (i : ℕ) → i < m → get_or p i 0 ≡ get_or q i 0
  unfolding talk_of
  same-answers p q zero e i h = absurd (omega (arith, h))
  same-answers p q (suc m) e i h = go (same-answers p q m (ap tail e) i) (below? i m)
    where
      go : (i < m → get_or p i 0 ≡ get_or q i 0) → Or (i < m) (m ≤ i) → get_or p i 0 ≡ get_or q i 0
      go earlier (left f) = earlier f
      go earlier (right f) =
          let last : i ≡ m = omega (arith, h, f) in
          subst (λ (j : ℕ). get_or p j 0 ≡ get_or q j 0) (sym last) (latest-same p q m e)

-- ---- two results

-- unused room within the site's own words is open, where they are not refused
pub record Same (n J L : ℕ) (p xs ls q ys ks : List ℕ) (a b : Answer) : Type 0 where
  pub answer : a ≡ b
  pub answers : p ≡ q
  pub site : site_of xs ls ≡ site_of ys ks
  pub words : is_refusal a ≡ true → (xs ≡ ys) × (ls ≡ ks)
  pub past-site : past_site n J xs ≡ past_site n J ys
  pub past-links : past_links n J L ls ≡ past_links n J L ks
  pub site-words : length xs ≡ length ys
  pub links-words : length ls ≡ length ks

module _ {n J L : ℕ} {script before p q xs ls us vs ys ks : List ℕ} where
  module _ {m : ℕ} (x : Asked n J L script before p xs ls us vs m)
      (y : Asked n J L script before q xs ls ys ks m) where
    one-script : questions x.talk ≡ questions y.talk
    one-script =
        sym (questions-retold x.talk) ∙ ap questions x.answers ∙ same-questions script p q m
        ∙ sym (ap questions y.answers) ∙ questions-retold y.talk

    one-talk : x.talk ≡ y.talk
    one-talk =
        all_said n J L (holds-run x.served).said ∙ ap (answered n J L) one-script
        ∙ sym (all_said n J L (holds-run y.served).said)

    one-site : site_of us vs ≡ site_of ys ks
    one-site =
        run_is (holds-run x.served).said
        ∙ ap (λ (h : Talk). run (start n J L) (calls h)) one-talk
        ∙ sym (run_is (holds-run y.served).said)

    one_list : p ≡ q
    one_list = ext_get_or 0 p q (x.as_many ∙ sym y.as_many) (λ i h. go i (below? i m))
      where
        go : (i : ℕ) → Or (i < m) (m ≤ i) → get_or p i 0 ≡ get_or q i 0
        go i (left e) =
            same-answers script p q m
            (sym x.answers ∙ ap (retold answer_number) one-talk ∙ y.answers) i e
        go i (right e) = x.rest i e ∙ sym (y.rest i e)

  pub once : {a b : Answer} → Driven n J L script before p xs ls us vs a
      → Driven n J L script before q xs ls ys ks b → Same n J L p us vs q ys ks a b
  once {a} {b} x y = go (decide (is_refusal a))
    where
      same : a ≡ b
      same = x.answer ∙ sym y.answer

      go : Or (is_refusal a ≡ true) (is_refusal a ≡ false) → Same n J L p us vs q ys ks a b
      go (left e) =
          let k = x.refused e in
          let l = y.refused (ap is_refusal (sym same) ∙ e) in
          let site = k.0 ∙ sym l.0 in
          let links = k.1 ∙ sym l.1 in
          record {
            answer = same;
            answers = k.2 ∙ sym l.2;
            site = λ t. site_of (site t) (links t);
            words = λ r. (site, links);
            past-site = ap (past_site n J) site;
            past-links = ap (past_links n J L) links;
            site-words = ap length site;
            links-words = ap length links;
          }
      go (right e) =
          let k = x.done e in
          let l = y.done (ap is_refusal (sym same) ∙ e) in
          record {
            answer = same;
            answers = one_list k l;
            site = one-site k l;
            words = λ r. absurd (both-no r e);
            past-site = k.past-site ∙ sym l.past-site;
            past-links = k.past-links ∙ sym l.past-links;
            site-words = k.site-words ∙ sym l.site-words;
            links-words = k.links-words ∙ sym l.links-words;
          }
