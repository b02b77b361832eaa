-- From what is left in the words to the outcome of a call.
use Prim.Native.Nat.{ℕ}
use mathlib.Core.Path.{◌≡◌, refl, sym, ap, ◌∙◌, subst}
use mathlib.Core.Bool.{Bool, true, false}
use mathlib.Core.List.{List, [], ◌∷◌}
use native.Mathlib.Omega.{arith}
use lib.ListN.{take}
use Rattle.rules.specs.Box.{Box, Letter}
use Rattle.rules.specs.Site.{Site, Outcome, room, played}
use Rattle.rules.specs.Needs.{Need, need, ruled}
use Rattle.rules.specs.Step.{refused, by_answer, by_turn}
use Rattle.rules.specs.declared.model.Answer.{Answer}
use Rattle.rules.specs.declared.model.Refusal.{Refusal}
use Rattle.rules.specs.declared.model.Turn.{Turn}
use Rattle.laws.proofs.Logic.{true≠false, both-no}
use Rattle.laws.proofs.StepLaws.{changed, accepted-kept}
use Rattle.memory.specs.Memory.{past_site, past_links, site_of, readable, general_words}
use Rattle.memory.specs.After.{setting_at, boxes_of, links_of, RowsPut, LinksPut}
use Rattle.memory.proofs.LentLaws.{general-same, setting_same, readable-rows, readable-links}
use Rattle.memory.proofs.LentLaws.{readable-made}
use Rattle.rules.specs.Answers.{is_refusal, is_accepted}
use Rattle.site.specs.Entries.{After}

-- ---- needs

pub no_needs {ℓ} : {A : Type ℓ} (refuse : Refusal → A) (a : A) → ruled refuse [] a ≡ a
unfolding ruled
no_needs refuse a = refl

pub need-met {ℓ} : {A : Type ℓ} (refuse : Refusal → A) (why : Refusal) (b : Bool) (ks : List Need)
    (a : A)
    → b ≡ true → ruled refuse (need why b ∷ ks) a ≡ ruled refuse ks a
unfolding ruled
need-met refuse why b ks a e = rw e refl

pub need-not {ℓ} : {A : Type ℓ} (refuse : Refusal → A) (why : Refusal) (b : Bool) (ks : List Need)
    (a : A)
    → b ≡ false → ruled refuse (need why b ∷ ks) a ≡ refuse why
unfolding ruled
need-not refuse why b ks a e = rw e refl

-- ---- the words

-- where the general words stay, the site has other boxes and other links
pub site-changed : (xs ls xs' ls' : List ℕ) (c : ℕ) (f : ℕ → Box) (g : ℕ → ℕ → List Letter)
    → take general_words xs' ≡ take general_words xs → boxes_of (setting_at xs c) xs' ≡ f
    → links_of (setting_at xs c) ls' ≡ g
    → site_of xs' ls' ≡ changed (site_of xs ls) f g
unfolding site_of
site-changed xs ls xs' ls' c f g e p q =
    rw (
      general-same xs xs' e 0 (omega arith),
      general-same xs xs' e 1 (omega arith),
      general-same xs xs' e 2 (omega arith),
      general-same xs xs' e 3 (omega arith),
      general-same xs xs' e 4 (omega arith),
      p,
      q,
    ) refl

-- ---- refusals

pub refused-after : (xs ls : List ℕ) (why : Refusal) (o : Outcome) → o ≡ refused (site_of xs ls) why
    → After o xs ls xs ls (Answer.Refused why)
refused-after xs ls why o e = record {
  answer = ap (λ (r : Outcome). r.answer) (sym e);
  site = ap (λ (r : Outcome). r.next) (sym e);
  kept = λ t. (refl, refl);
  past-site = refl;
  past-links = refl;
  site-words = refl;
  links-words = refl;
  readable = λ r. r;
}

-- the rows and the links hold what a site of other boxes and links has
pub changed-after : (xs ls xs' ls' : List ℕ) (c : ℕ) (f : ℕ → Box) (g : ℕ → ℕ → List Letter)
    (o : Outcome)
    (a : Answer) → o ≡ record { answer = a; next = changed (site_of xs ls) f g }
    → is_refusal a ≡ false
    → RowsPut (setting_at xs c) f xs xs' → LinksPut (setting_at xs c) g ls ls'
    → After o xs ls xs' ls' a
unfolding site_of
changed-after xs ls xs' ls' c f g o a e no-refusal r l = record {
  answer = ap (λ (p : Outcome). p.answer) (sym e);
  site = site-changed xs ls xs' ls' c f g r.general r.boxes l.links ∙ ap
      (λ (p : Outcome). p.next) (sym e);
  kept = λ t. absurd (both-no t no-refusal);
  past-site = subst (λ (p : Outcome).
      past_site p.next.n p.next.J xs' ≡ past_site p.next.n p.next.J xs) (sym e)
      r.past;
  past-links = subst (λ (p : Outcome).
      past_links p.next.n p.next.J p.next.L ls'
      ≡ past_links p.next.n p.next.J p.next.L ls) (sym e) l.past;
  site-words = r.words;
  links-words = l.words;
  readable = λ h.
      readable-made xs' ls' c
      (rw (setting_same xs xs' c r.general) r.lent)
      (rw (setting_same xs xs' c r.general) l.lent);
}

-- the rows as they were
pub rows_same : (xs ls : List ℕ) (c : ℕ) → readable xs ls ≡ true
    → RowsPut (setting_at xs c) (boxes_of (setting_at xs c) xs) xs xs
rows_same xs ls c r = record {
  boxes = refl;
  general = refl;
  past = refl;
  words = refl;
  lent = readable-rows xs ls c r;
}

-- the links as they were
pub links-same : (xs ls : List ℕ) (c : ℕ) → readable xs ls ≡ true
    → LinksPut (setting_at xs c) (links_of (setting_at xs c) ls) ls ls
links-same xs ls c r = record {
  links = refl;
  past = refl;
  words = refl;
  lent = readable-links xs ls c r;
}

-- ---- turns

-- o is what the turn t of box c comes to, on links that the mail it takes has left
module _ (xs ls : List ℕ) (c : ℕ) (link : ℕ → ℕ → List Letter) (t : Turn) (ms : List ℕ)
    (o : Outcome)
    (is : o ≡ by_turn (site_of xs ls) (changed (site_of xs ls) (site_of xs ls).box link) c t
    ms) where
  abbrev base : Site
  base = changed (site_of xs ls) (site_of xs ls).box link

  abbrev by : Answer → Outcome
  by a = by_answer a (site_of xs ls) base c t ms

  -- the turn refuses
  pub turn-refused : is_refusal t.answer ≡ true → After o xs ls xs ls t.answer
  unfolding by_answer
  turn-refused r = go t.answer r is
    where
      go : (a : Answer) → is_refusal a ≡ true → o ≡ by a → After o xs ls xs ls a
      go Answer.Done r e = absurd (true≠false (sym r))
      go Answer.Taken r e = absurd (true≠false (sym r))
      go (Answer.Discarded why) r e = absurd (true≠false (sym r))
      go (Answer.Refused why) r e = refused-after xs ls why o e

  -- the turn discards
  pub turn-discarded : {ls' : List ℕ} → is_refusal t.answer ≡ false
      → is_accepted t.answer ≡ false → readable xs ls ≡ true
      → LinksPut (setting_at xs c) link ls ls' → After o xs ls xs ls' t.answer
  unfolding site_of by_answer
  turn-discarded {ls'} r h ok put = go t.answer r h is
    where
      go : (a : Answer) → is_refusal a ≡ false → is_accepted a ≡ false → o ≡ by a
          → After o xs ls xs ls' a
      go Answer.Done r h e = absurd (both-no refl h)
      go Answer.Taken r h e = absurd (both-no refl h)
      go (Answer.Discarded why) r h e =
          changed-after xs ls xs ls' c _ _ o (Answer.Discarded why) e refl (rows_same xs ls c ok)
          put
      go (Answer.Refused why) r h e = absurd (both-no refl r)

  -- the turn goes on
  module _ (h : is_accepted t.answer ≡ true) where
    by-room : (a : Answer) → is_accepted a ≡ true → o ≡ by a
        → o ≡ ruled (refused (site_of xs ls)) (need Refusal.Link (room base c t.out) ∷ [])
        (record { answer = a; next = played base c t ms })
    unfolding by_answer
    by-room Answer.Done h e = e
    by-room Answer.Taken h e = e
    by-room (Answer.Discarded why) h e = absurd (true≠false (sym h))
    by-room (Answer.Refused why) h e = absurd (true≠false (sym h))

    -- there is no room for its mails
    pub turn-full : room base c t.out ≡ false
        → After o xs ls xs ls (Answer.Refused Refusal.Link)
    turn-full r =
        refused-after xs ls Refusal.Link o (by-room t.answer h is ∙ need-not _ _ _ _ _ r)

    -- it is played
    pub turn-played : {xs' ls' : List ℕ} → room base c t.out ≡ true
        → RowsPut (setting_at xs c) (played base c t ms).box xs xs'
        → LinksPut (setting_at xs c) (played base c t ms).link ls ls'
        → After o xs ls xs' ls' t.answer
    unfolding site_of
    turn-played {xs'} {ls'} r rows links =
        changed-after xs ls xs' ls' c _ _ o t.answer
        (by-room t.answer h is ∙ need-met _ _ _ _ _ r ∙ no_needs _ _)
        (accepted-kept t.answer h) rows links
