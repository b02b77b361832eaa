-- Laws of the engine's answers: what each call of it says of a line.
use Prim.Native.Nat.{ℕ, ◌+◌, ◌-◌, ◌*◌, ◌<◌, ◌≤◌}
use mathlib.Core.Path.{◌≡◌, refl, ap, sym, ◌∙◌, subst}
use mathlib.Core.Bool.{Bool, true, false, ◌&&◌, ◌||◌}
use mathlib.Core.List.{List}
use native.Mathlib.Omega.{arith}
use native.Mathlib.Nat.{mul-le-mul}
use lib.Dec.{leb, ltb}
use lib.ListN.{length}
use borrow.Author.Tests.{le-leb, lt-leb, ltb-true, ltb-false}
use Rattle.rules.specs.Pick.{pick_true, pick-false}
use Rattle.rules.specs.Sizes.{sizes_form}
use Rattle.rules.specs.Site.{Site, Outcome, fresh}
use Rattle.rules.specs.Step.{step, holds, did, refused as no}
use Rattle.rules.specs.declared.model.Answer.{Answer}
use Rattle.rules.specs.declared.model.Call.{Call}
use Rattle.rules.specs.declared.model.Refusal.{Refusal}
use Rattle.laws.proofs.Logic.{Or, and_yes, and_both, or_cases, or_no}
use Rattle.laws.proofs.Logic.{both-no}
use Rattle.laws.proofs.FormLaws.{sizes-says}
use Rattle.memory.specs.Memory.{site_words, links_words, past_site, past_links, site_of}
use Rattle.memory.specs.Memory.{memory_form}
use Rattle.rules.specs.Answers.{is_refusal}
use Rattle.site.specs.Entries.{After, FormedStep, FreshMade, fresh_on}
use Rattle.site.proofs.AfterLaws.{no_needs, need-met, need-not}
use Rattle.lines.specs.declared.Line.{Line}
use Rattle.trace.specs.Replay.{Told, refused, told, trace_sizes, opened, played, judged, most_lines}
use Rattle.trace.specs.Stops.{opens, plays}
use Rattle.feed.specs.State.{told_site, Past}
use Rattle.feed.specs.Says.{Answers}
use Rattle.feed.proofs.EntryLaws.{either}
use Rattle.letter.specs.Place.{head_words as letter_head}
use Rattle.row.specs.Row.{row_width}

-- a line that is not done leaves the words, and one that is done holds what it left
held_by : (a : Answer) (t : Told) (xs ls xs' ls' : List ℕ) → told a (site_of xs' ls') ≡ t
    → (is_refusal a ≡ true → (xs' ≡ xs) × (ls' ≡ ls))
    → site_of xs' ls' ≡ told_site (site_of xs ls) t
unfolding told_site
held_by Answer.Done t xs ls xs' ls' e k = ap (told_site (site_of xs ls)) e
held_by Answer.Taken t xs ls xs' ls' e k = ap (told_site (site_of xs ls)) e
held_by (Answer.Discarded why) t xs ls xs' ls' e k = ap (told_site (site_of xs ls)) e
held_by (Answer.Refused why) t xs ls xs' ls' e k =
    ap (λ (y : List ℕ). site_of y ls') (k refl).0
    ∙ (ap (site_of xs) (k refl).1 ∙ ap (told_site (site_of xs ls)) e)

as_told : {t u : Told} {xs ls xs' ls' : List ℕ} {a : Answer} → t ≡ u → Answers t xs ls xs' ls' a
    → Answers u xs ls xs' ls' a
as_told {xs = xs} {ls = ls} {xs' = xs'} {ls' = ls'} {a = a} e w =
    subst (λ (t : Told). Answers t xs ls xs' ls' a) e w

-- "A refusal returns its number and nothing else"
pub stays : (t : Told) (xs ls : List ℕ) (why : Refusal) → t ≡ refused why
    → Answers t xs ls xs ls (Answer.Refused why)
unfolding told_site
stays t xs ls why e = record {
  answer = sym e;
  holds = ap (told_site (site_of xs ls)) (sym e);
  form = λ h. absurd (both-no refl h);
  kept = λ h. (refl, refl);
  past = record { site = refl; links = refl };
  site = refl;
  links = refl;
}

-- what the engine leaves past the site's own words
past_after : {o : Outcome} {xs ls xs' ls' : List ℕ} {a : Answer} → After o xs ls xs' ls' a
    → Past xs ls xs' ls'
past_after {o} {xs} {ls} {xs'} {ls'} w = let s = sym w.site in
    record {
      site =
          subst (λ (z : Site). past_site z.n z.J xs' ≡ past_site z.n z.J xs) s
          w.past-site;
      links =
          subst
          (λ (z : Site). past_links z.n z.J z.L ls' ≡ past_links z.n z.J z.L ls) s
          w.past-links;
    }

pub past-last : (k : ℕ) (xs ls : List ℕ) (l : Line) → most_lines < k
    → Answers (judged k (site_of xs ls) l) xs ls xs ls (Answer.Refused Refusal.Line)
unfolding judged
past-last k xs ls l h = stays _ xs ls Refusal.Line (pick-false _ _ _ (lt-leb k most_lines h))

other-played : (s : Site) (l : Line) → plays l ≡ false → played s l ≡ refused Refusal.Line
unfolding played
other-played s (Line.Site n J L) e = refl
other-played s (Line.Call c) e = absurd (both-no refl e)
other-played s (Line.Holds c i left right) e = absurd (both-no refl e)
other-played s Line.Unreadable e = refl

-- a line that is in time
module _ (k : ℕ) (xs ls : List ℕ) (h : k ≤ most_lines) where
  in_time : (l : Line) → judged k (site_of xs ls) l ≡ played (site_of xs ls) l
  unfolding judged
  in_time l = pick_true _ _ _ (le-leb k most_lines h)

  stepped : (xs' ls' : List ℕ) (c : Call) (a : Answer) → a ≡ (step (site_of xs ls) c).answer
      → site_of xs' ls' ≡ (step (site_of xs ls) c).next → memory_form xs' ls' ≡ true
      → (is_refusal a ≡ true → (xs' ≡ xs) × (ls' ≡ ls)) → Past xs ls xs' ls'
      → length xs' ≡ length xs → length ls' ≡ length ls
      → Answers (judged k (site_of xs ls) (Line.Call c)) xs ls xs' ls' a
  unfolding played
  stepped xs' ls' c a ea es f kept past p q =
      let e : told a (site_of xs' ls') ≡ judged k (site_of xs ls) (Line.Call c) =
      ap (λ (b : Answer). told b (site_of xs' ls')) ea
      ∙ (ap (told (step (site_of xs ls) c).answer) es ∙ sym (in_time (Line.Call c))) in
      record {
        answer = e;
        holds = held_by a (judged k (site_of xs ls) (Line.Call c)) xs ls xs' ls' e kept;
        form = λ e. f;
        kept = kept;
        past = past;
        site = p;
        links = q;
      }

  pub called : (xs' ls' : List ℕ) (l : Line) (c : Call) (a : Answer) → l ≡ Line.Call c
      → FormedStep c xs ls xs' ls' a → Answers (judged k (site_of xs ls) l) xs ls xs' ls' a
  called xs' ls' l c a e w =
      let o = w.after in
      as_told (ap (judged k (site_of xs ls)) (sym e))
      (stepped xs' ls' c a o.answer o.site w.form o.kept
      (past_after o) o.site-words o.links-words)

  held : (c i left right : ℕ) (a : Answer) → a ≡ holds (site_of xs ls) c i left right
      → memory_form xs ls ≡ true
      → Answers (judged k (site_of xs ls) (Line.Holds c i left right)) xs ls xs ls a
  unfolding played
  held c i left right a e f =
      let l = Line.Holds c i left right in
      let d : told a (site_of xs ls) ≡ judged k (site_of xs ls) l =
      ap (λ (b : Answer). told b (site_of xs ls)) e ∙ sym (in_time l) in
      record {
        answer = d;
        holds = held_by a (judged k (site_of xs ls) l) xs ls xs ls d (λ no. (refl, refl));
        form = λ d. f;
        kept = λ no. (refl, refl);
        past = record { site = refl; links = refl };
        site = refl;
        links = refl;
      }

  pub asked : (l : Line) (c i left right : ℕ) (a : Answer) → l ≡ Line.Holds c i left right
      → a ≡ holds (site_of xs ls) c i left right → memory_form xs ls ≡ true
      → Answers (judged k (site_of xs ls) l) xs ls xs ls a
  asked l c i left right a d e f =
      as_told (ap (judged k (site_of xs ls)) (sym d)) (held c i left right a e f)

  pub misplaced : (l : Line) → plays l ≡ false
      → Answers (judged k (site_of xs ls) l) xs ls xs ls (Answer.Refused Refusal.Line)
  misplaced l e =
      stays (judged k (site_of xs ls) l) xs ls Refusal.Line
      (in_time l ∙ other-played (site_of xs ls) l e)

-- a site line
founded : (n J L : ℕ) (xs ls xs' ls' : List ℕ) (a : Answer) → sizes_form n J L ≡ true → J ≤ 32
    → L ≤ 8 → a ≡ Answer.Done → site_of xs' ls' ≡ fresh n J L → memory_form xs' ls' ≡ true
    → Past xs ls xs' ls' → length xs' ≡ length xs → length ls' ≡ length ls
    → Answers (opened (Line.Site n J L)) xs ls xs' ls' a
unfolding opened trace_sizes
founded n J L xs ls xs' ls' a s hj hl ea es f past p q =
    let e : told a (site_of xs' ls') ≡ opened (Line.Site n J L) =
    ap (λ (b : Answer). told b (site_of xs' ls')) ea ∙ (ap (told Answer.Done) es
    ∙ sym (pick_true _ _ _ (and_both (and_both s (le-leb J 32 hj)) (le-leb L 8 hl)))) in
    record {
      answer = e;
      holds =
          held_by a (opened (Line.Site n J L)) xs ls xs' ls' e
          (λ no. absurd (both-no no (ap is_refusal ea)));
      form = λ e. f;
      kept = λ no. absurd (both-no no (ap is_refusal ea));
      past = past;
      site = p;
      links = q;
    }

sizes-refused : (n J L : ℕ) (xs ls : List ℕ) → trace_sizes n J L ≡ false
    → Answers (opened (Line.Site n J L)) xs ls xs ls (Answer.Refused Refusal.Sizes)
unfolding opened
sizes-refused n J L xs ls e = stays _ xs ls Refusal.Sizes (pick-false _ _ _ e)

few : (n J L : ℕ) → trace_sizes n J L ≡ true → (leb J 32 ≡ true) × (leb L 8 ≡ true)
unfolding trace_sizes
few n J L e =
    let two = and_yes (sizes_form n J L && leb J 32) (leb L 8) e in
    ((and_yes (sizes_form n J L) (leb J 32) two.0).1, two.1)

too_large : (n J L : ℕ) → (ltb 32 J || ltb 8 L) ≡ true → trace_sizes n J L ≡ false
too_large n J L h = either (trace_sizes n J L) (λ e. absurd (go (few n J L e) (or_cases _ _ h)))
    (λ e. e)
  where
    go : (leb J 32 ≡ true) × (leb L 8 ≡ true) → Or (ltb 32 J ≡ true) (ltb 8 L ≡ true) → ⊥
    go f (Or.left p) = both-no f.0 (lt-leb J 32 (ltb-true 32 J p))
    go f (Or.right p) = both-no f.1 (lt-leb L 8 (ltb-true 8 L p))

pub open_large : (n J L : ℕ) (xs ls : List ℕ) → (ltb 32 J || ltb 8 L) ≡ true
    → Answers (opened (Line.Site n J L)) xs ls xs ls (Answer.Refused Refusal.Sizes)
open_large n J L xs ls h = sizes-refused n J L xs ls (too_large n J L h)

-- there are words enough for every site of a trace
rows-enough : (n J m : ℕ) → n ≤ 5 → J ≤ 32 → site_words 5 32 ≤ m → site_words n J ≤ m
rows-enough n J m hn hj h =
    let rows : n * row_width J ≤ 5 * row_width 32 =
    mul-le-mul {n₂ = 5} {m₂ = row_width 32} hn (omega arith) in omega arith

links-enough : (n J L m : ℕ) → n ≤ 5 → J ≤ 32 → L ≤ 8 → links_words 5 32 8 ≤ m
    → links_words n J L ≤ m
links-enough n J L m hn hj hl h =
    let pairs : n * (n - 1) ≤ 5 * 4 = mul-le-mul {n₂ = 5} {m₂ = 4} hn (omega arith) in
    let places : L * (letter_head + J) ≤ 8 * (letter_head + 32) =
    mul-le-mul {n₂ = 8} {m₂ = letter_head + 32} hl (omega arith) in
    let all : n * (n - 1) * (2 + L * (letter_head + J)) ≤ 20 * (2 + 8 * (letter_head + 32)) =
    mul-le-mul {n₂ = 20} {m₂ = 2 + 8 * (letter_head + 32)} pairs (omega arith) in omega arith

-- the words after `fresh` of sizes in and out of range
module _ (n J L : ℕ) (xs ls xs' ls' : List ℕ) (a : Answer) (w : FreshMade n J L xs ls xs' ls' a)
  where
    open_good : J ≤ 32 → L ≤ 8 → site_words 5 32 ≤ length xs → links_words 5 32 8 ≤ length ls
        → sizes_form n J L ≡ true → Answers (opened (Line.Site n J L)) xs ls xs' ls' a
    unfolding fresh_on
    open_good j l hs hl s =
        let z = sizes-says s in
        let o = w.after in
        let is : fresh_on xs ls n J L ≡ did (fresh n J L) = need-met _ _ _ _ _ s
        ∙ need-met _ _ _ _ _
        (and_both (le-leb _ _ (rows-enough n J (length xs) z.few-boxes j hs))
        (le-leb _ _ (links-enough n J L (length ls) z.few-boxes j l hl))) ∙ no_needs _ _ in
        let done : a ≡ Answer.Done = o.answer ∙ ap (λ (r : Outcome). r.answer) is in
        founded n J L xs ls xs' ls' a s j l done (o.site ∙ ap (λ (r : Outcome). r.next) is)
        (w.form (ap is_refusal done)) (past_after o) o.site-words o.links-words

    open_bad : sizes_form n J L ≡ false → Answers (opened (Line.Site n J L)) xs ls xs' ls' a
    unfolding fresh_on opened trace_sizes
    open_bad s =
        let o = w.after in
        let is : fresh_on xs ls n J L ≡ no (site_of xs ls) Refusal.Sizes = need-not _ _ _ _ _ s in
        let b : a ≡ Answer.Refused Refusal.Sizes = o.answer ∙ ap (λ (r : Outcome). r.answer) is in
        let e : told a (site_of xs' ls') ≡ opened (Line.Site n J L) =
        ap (λ (b : Answer). told b (site_of xs' ls')) b
        ∙ sym (pick-false _ _ _ (ap (λ (t : Bool). t && leb J 32 && leb L 8) s)) in
        record {
          answer = e;
          holds =
              held_by a (opened (Line.Site n J L)) xs ls xs' ls' e
              o.kept;
          form = λ r. absurd (both-no (ap is_refusal b) r);
          kept = o.kept;
          past = past_after o;
          site = o.site-words;
          links = o.links-words;
        }

    pub open_made : (ltb 32 J || ltb 8 L) ≡ false → site_words 5 32 ≤ length xs
        → links_words 5 32 8 ≤ length ls → Answers (opened (Line.Site n J L)) xs ls xs' ls' a
    open_made h hs hl = let small = or_no (ltb 32 J) (ltb 8 L) h in
        either (sizes_form n J L)
        (open_good (ltb-false 32 J small.0) (ltb-false 8 L small.1) hs hl) open_bad

pub open_first : (l : Line) (n J L : ℕ) {xs ls xs' ls' : List ℕ} {a : Answer}
    → l ≡ Line.Site n J L → Answers (opened (Line.Site n J L)) xs ls xs' ls' a
    → Answers (opened l) xs ls xs' ls' a
open_first l n J L e w = as_told (ap opened (sym e)) w

pub other-first : (l : Line) (xs ls : List ℕ) → opens l ≡ false
    → Answers (opened l) xs ls xs ls (Answer.Refused Refusal.Line)
unfolding opened
other-first (Line.Site n J L) xs ls e = absurd (both-no refl e)
other-first (Line.Call c) xs ls e = stays _ xs ls Refusal.Line refl
other-first (Line.Holds c i left right) xs ls e = stays _ xs ls Refusal.Line refl
other-first Line.Unreadable xs ls e = stays _ xs ls Refusal.Line refl
