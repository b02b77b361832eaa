-- What the code knows of a mail at the head of a link of words by form.
use Prim.Native.Nat.{ℕ, zero, suc, ◌+◌, ◌-◌, ◌≤◌, ◌<◌}
use mathlib.Core.Path.{◌≡◌, refl, sym, ap, ◌∙◌, subst}
use mathlib.Core.Bool.{Bool, true, not, ◌&&◌, ◌||◌, cond}
use mathlib.Core.List.{List, tail}
use native.Mathlib.Omega.{arith}
use lib.Dec.{eqb, ltb}
use lib.ListN.{length, get_or}
use borrow.Author.Tests.{ne_eqb, lt-ltb, le-ltb}
use Rattle.words.specs.Rows.{part}
use Rattle.words.proofs.TestLaws.{fails}
use Rattle.rules.specs.Every.{every}
use Rattle.rules.specs.Sets.{has}
use Rattle.rules.specs.Box.{Box, Letter, turned}
use Rattle.rules.specs.Site.{is_link, upd, posted, room, popped, twice}
use Rattle.rules.specs.Step.{step}
use Rattle.rules.specs.declared.model.Answer.{Answer}
use Rattle.rules.specs.declared.model.Call.{Call}
use Rattle.rules.specs.declared.model.Refusal.{Refusal}
use Rattle.rules.specs.declared.model.Out.{Out}
use Rattle.rules.specs.declared.model.Setting.{Setting}
use Rattle.rules.specs.declared.model.Turn.{Turn}
use Rattle.laws.proofs.FormLaws.{is-link}
use Rattle.letter.specs.Place.{letter_at, head_words as letter_head}
use Rattle.link.specs.Link.{place_width}
use Rattle.memory.specs.Memory.{site_of, memory_form}
use Rattle.memory.specs.After.{setting_at, boxes_of, links_of, links_by, RowsPut, LinksPut}
use Rattle.memory.specs.After.{LinksLent, Playable}
use Rattle.site.specs.Calls.{link_call}
use Rattle.site.specs.Carry.{room_out, less_head, Posts, TakesMail, HasHead, Carried}
use Rattle.site.specs.Entries.{After}
use Rattle.site.specs.declared.mail.OnLink.{OnLink}
use Rattle.site.proofs.AfterLaws.{no_needs, need-met, need-not, refused-after}
use Rattle.site.proofs.CallLaws.{no-link-call, empty-call, lose-needs, repeat-needs}
use Rattle.site.proofs.CallAfter.{relinked-after}
use Rattle.site.proofs.KnownLaws.{knows-of, links-lent}
use Rattle.site.proofs.CarryLaws.{playable, posts-after, sent-after}

positive : (n : ℕ) → (n ≡ 0 → ⊥) → 0 < n
positive zero k = absurd (k refl)
positive (suc n) k = omega arith

-- ---- a test of two numbers, and the count of mails on their link

pub not-link : {xs ls : List ℕ} {s : Setting} {r : Bool} (what : OnLink) (a b : ℕ)
    → memory_form xs ls ≡ true → s ≡ setting_at xs b → r ≡ is_link s.n a b → not r ≡ true
    → After (step (site_of xs ls) (link_call what a b)) xs ls xs ls (Answer.Refused Refusal.Box)
unfolding site_of
not-link {xs} {ls} what a b f e p q =
    refused-after xs ls Refusal.Box _
    (no-link-call xs ls f a b what
    (ap (λ (k : Setting). is_link k.n a b) (sym e) ∙ fails p q))

pub record AtLink (xs ls : List ℕ) (a b : ℕ) (s : Setting) : Type 0 where
  pub form : memory_form xs ls ≡ true
  pub setting : s ≡ setting_at xs b
  pub link : is_link s.n a b ≡ true

module _ {xs ls : List ℕ} {a b : ℕ} {s : Setting} (k : AtLink xs ls a b s) where
  link-there : is_link (get_or xs 0 0) a b ≡ true
  link-there = ap (λ (t : Setting). is_link t.n a b) (sym k.setting) ∙ k.link

  pub counts : LinksLent s ls × (is_link s.n a b ≡ true)
  counts = (links-lent (knows-of k.form b k.setting), k.link)

  module _ {n : ℕ} (h : n ≡ length (links_of s ls a b)) where
    held : n ≡ length (links_of (setting_at xs b) ls a b)
    held = h ∙ (λ i. length (links_of (k.setting i) ls a b))

    pub is-empty : (what : OnLink) → n ≡ 0
        → After (step (site_of xs ls) (link_call what a b)) xs ls xs ls
        (Answer.Refused Refusal.Condition)
    unfolding site_of
    is-empty what z =
        refused-after xs ls Refusal.Condition _
        (empty-call xs ls k.form a b link-there what (sym held ∙ z))

    pub has-head : (n ≡ 0 → ⊥) → HasHead s a xs ls
    has-head z =
        let some : 0 < length (links_of (setting_at xs b) ls a b) =
        omega (arith, held, positive n z)
        in
        rw k.setting (record {
          know = record { form = k.form; setting = refl };
          link = link-there;
          some = some;
        })

    pub same_count : n ≡ length (links_of s ls a s.me)
    same_count = held ∙ (λ i. length (links_of (sym k.setting i) ls a (sym k.setting i).me))

  -- the outcome at me is the outcome at b
  pub at_receiver : (what : OnLink) {xs' ls' : List ℕ} {r : Answer}
      → After (step (site_of xs ls) (link_call what a s.me)) xs ls xs' ls' r
      → After (step (site_of xs ls) (link_call what a b)) xs ls xs' ls' r
  at_receiver what {xs'} {ls'} {r} h =
      subst
      (λ (t : Setting). After (step (site_of xs ls) (link_call what a t.me)) xs ls xs' ls' r)
      k.setting h

-- ---- a head that is lost or repeated

module _ {s : Setting} {a : ℕ} {xs ls : List ℕ} (w : HasHead s a xs ls) where
  abbrev e : s ≡ setting_at xs s.me
  e = w.know.setting

  pub link-is : is_link (get_or xs 0 0) a s.me ≡ true
  link-is = ap (λ (t : Setting). is_link t.n a s.me) (sym e) ∙ w.link

  abbrev mails : ℕ
  mails = length (links_of (setting_at xs s.me) ls a s.me)

  same-mails : length (links_of s ls a s.me) ≡ mails
  same-mails = λ i. length (links_of (e i) ls a s.me)

  some-head : not (eqb mails 0) ≡ true
  some-head = ap not (ne_eqb mails 0 (omega (arith, same-mails, w.some)))

  pub head-lent : LinksLent s ls × ((is_link s.n a s.me ≡ true)
      × (0 < length (links_of s ls a s.me)))
  head-lent = (links-lent w.know, (w.link, w.some))

  pub lost_known : {ls' : List ℕ} → LinksPut s (less_head s a ls) ls ls'
      → After (step (site_of xs ls) (Call.Lose a s.me)) xs ls xs ls' Answer.Done
  unfolding site_of
  lost_known {ls'} put =
      relinked-after xs ls w.know.form tail a s.me _ ls'
      (lose-needs xs ls w.know.form a s.me link-is ∙ need-met _ _ _ _ _ some-head
      ∙ no_needs _ _)
      (subst (λ (k : Setting). LinksPut k (less_head k a ls) ls ls') e put)

  -- it holds n mails
  module _ {n : ℕ} (h : n ≡ length (links_of s ls a s.me)) where
    most : s.l ≡ (setting_at xs s.me).l
    most = ap (λ (k : Setting). k.l) e

    pub repeated_full : s.l ≤ n
        → After (step (site_of xs ls) (Call.Repeat a s.me)) xs ls xs ls
        (Answer.Refused Refusal.Link)
    unfolding site_of
    repeated_full full =
        refused-after xs ls Refusal.Link _
        (repeat-needs xs ls w.know.form a s.me link-is ∙ need-met _ _ _ _ _ some-head
        ∙ need-not _ _ _ _ _ (le-ltb mails _ (omega (arith, same-mails, most))))

    pub repeated_known : n < s.l → {ls' : List ℕ}
        → LinksPut s (links_by twice s a s.me ls) ls ls'
        → After (step (site_of xs ls) (Call.Repeat a s.me)) xs ls xs ls' Answer.Done
    unfolding site_of
    repeated_known room {ls'} put =
        relinked-after xs ls w.know.form twice a s.me _ ls'
        (repeat-needs xs ls w.know.form a s.me link-is ∙ need-met _ _ _ _ _ some-head
        ∙ need-met _ _ _ _ _ (lt-ltb mails _ (omega (arith, same-mails, most))) ∙ no_needs _ _)
        (subst (λ (k : Setting). LinksPut k (links_by twice k a k.me ls) ls ls') e put)

-- ---- the links after the head has left

module _ (s : Setting) (a : ℕ) (ls ls1 : List ℕ) (is : is_link s.n a s.me ≡ true)
    (put : LinksPut s (less_head s a ls) ls ls1) where
  -- what me sends on is as it was
  own_same : (b : ℕ) → links_of s ls1 s.me b ≡ links_of s ls s.me b
  own_same b =
      (λ k. put.links k s.me b)
      ∙ (rw (ne_eqb s.me a (λ d. (is-link is).2 (sym d))) refl)

  pub room-popped : (out : Out) → room_out s ls1 out ≡ room_out s ls out
  room-popped Out.Nothing = refl
  room-popped (Out.To set m) =
      λ k. every s.n (λ b. not (has set b) || ltb (length (own_same b k)) s.l)

  pub posted-popped : (out : Out) (rs ls' : List ℕ)
      → LinksPut s (posted (links_of s ls1) s.me out rs) ls1 ls'
      → LinksPut s (posted (less_head s a ls) s.me out rs) ls ls'
  posted-popped out rs ls' h = record {
    links = h.links ∙ (λ k. posted (put.links k) s.me out rs);
    past = h.past ∙ put.past;
    words = h.words ∙ put.words;
    lent = h.lent;
  }

-- the model asks for room on the links without the head
pub room-base : (xs ls : List ℕ) (a b : ℕ) → is_link (get_or xs 0 0) a b ≡ true → (out : Out)
    → room (site_of xs ls) b out ≡ room (popped (site_of xs ls) a b) b out
unfolding room site_of
room-base xs ls a b is Out.Nothing = refl
room-base xs ls a b is (Out.To set m) =
    λ k. every (get_or xs 0 0) (λ y. not (has set y) || ltb (length (same y k)) (get_or xs 2 0))
  where
    same : (y : ℕ) → links_of (setting_at xs b) ls b y
        ≡ cond (eqb b a && eqb y b) (tail (links_of (setting_at xs b) ls b y))
        (links_of (setting_at xs b) ls b y)
    same y = rw (ne_eqb b a (λ d. (is-link is).2 (sym d))) refl

-- the place of a mail, as the code cuts it
pub place-cut : (ls : List ℕ) (p q w : ℕ) → q ≡ p + w → part ls p (q - p) ≡ part ls p w
place-cut ls p q w e = let d : q - p ≡ w = omega (arith, e) in ap (part ls p) d

-- ---- a mail that is carried out

module _ {s : Setting} {a p : ℕ} {xs ls : List ℕ} {t : Turn} (k : TakesMail s a p xs ls t) where
  abbrev there : ℕ → List ℕ
  there w = (letter_at (part ls p w)).records

  abbrev turned_by : ℕ → Box
  turned_by w = turned (boxes_of s xs s.me) t (there w)

  pub mail-some : 0 < length (links_of s ls a s.me)
  mail-some = subst (λ (l : List Letter). 0 < length l) (sym k.head.letters) (omega arith)

  module _ (q : ℕ) (e : q ≡ p + (letter_head + s.j)) where
    pub mail-playable : Playable s xs (there (q - p)) t
    mail-playable =
        subst (λ (l : List ℕ). Playable s xs (letter_at l).records t)
        (sym (place-cut ls p q (place_width s.j) e)) (playable k.carries)

    module _ {xs' : List ℕ} (put : RowsPut s (upd (boxes_of s xs) s.me (turned_by (q - p))) xs xs')
      where
        pub mail-rows : RowsPut s (upd (boxes_of s xs) s.me (turned_by (place_width s.j))) xs xs'
        mail-rows =
            subst
            (λ (l : List ℕ). RowsPut s (upd (boxes_of s xs) s.me
            (turned (boxes_of s xs s.me) t (letter_at l).records)) xs xs')
            (place-cut ls p q (place_width s.j) e) put

        module _ {ls1 : List ℕ} (popped : LinksPut s (less_head s a ls) ls ls1) where
          pub mail-posts : Posts s ls1 t.out (boxes_of s xs' s.me).records
          mail-posts =
              posts-after k.carries mail-rows ls1 popped.lent
              (room-popped s a ls ls1 k.link popped t.out ∙ k.carries.room)

          pub mail-carried : {ls' : List ℕ}
              → LinksPut s (posted (links_of s ls1) s.me t.out
              (boxes_of s xs' s.me).records)
              ls1 ls'
              → Carried s (turned_by (place_width s.j))
              (posted (less_head s a ls) s.me t.out (turned_by (place_width s.j)).records) xs
              ls xs' ls'
          mail-carried sent = record {
            rows = mail-rows;
            links =
                posted-popped s a ls ls1 k.link popped t.out _ _
                (sent-after k.carries mail-rows (links_of s ls1) ls1 _ sent);
          }
