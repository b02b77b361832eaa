-- A fresh site in the words.
use Prim.Native.Nat.{ℕ, zero, suc, ◌+◌, ◌-◌, ◌*◌, ◌%◌, ◌^◌, ◌≤◌}
use native.Mathlib.Nat.{pow-suc}
use mathlib.Core.Path.{◌≡◌, refl, sym, ap, ◌∙◌, subst}
use mathlib.Core.Bool.{Bool, true, false, ◌&&◌}
use mathlib.Core.List.{List, []}
use native.Mathlib.Omega.{arith}
use lib.Dec.{leb}
use lib.ListN.{length, get_or}
use Rattle.rules.specs.Sizes.{most_boxes, sizes_form}
use Rattle.rules.specs.Sets.{full_set}
use Rattle.rules.specs.Site.{Outcome, fresh, fresh_box}
use Rattle.rules.specs.declared.model.Answer.{Answer}
use Rattle.rules.specs.declared.model.Refusal.{Refusal}
use Rattle.rules.specs.declared.model.Setting.{Setting}
use Rattle.laws.proofs.Logic.{true≠false}
use Rattle.rules.specs.Form.{form}
use Rattle.laws.proofs.FormKept.{fresh-form}
use Rattle.laws.proofs.FormLaws.{sizes-says}
use Rattle.laws.proofs.SetLaws.{set-small, set-up, set_full}
use Rattle.memory.specs.Memory.{site_words, links_words, box_in, link_in, site_of, readable}
use Rattle.row.specs.Row.{row_width}
use Rattle.memory.specs.Memory.{general_words}
use Rattle.memory.specs.Memory.{past_site, past_links, memory_form}
use Rattle.memory.specs.After.{setting_at, RowsPut, LinksPut}
use Rattle.memory.proofs.FormLaws.{words_say}
use Rattle.memory.proofs.LentLaws.{setting_same, readable-made, form_both}
use Rattle.site.specs.General.{setting_put}
use Rattle.site.specs.Entries.{After, FreshMade, fresh_on}
use Rattle.site.proofs.GeneralLaws.{setting-length, setting-past, setting-put}
use Rattle.site.proofs.AfterLaws.{no_needs, need-met, need-not, refused-after}

pub full-most : (n : ℕ) → n ≤ most_boxes → full_set n ≤ 31
full-most n h = set-small (full_set n) (set-up n most_boxes (full_set n) h (set_full n))

full-power : (n : ℕ) → full_set n + 1 ≡ 2 ^ n
unfolding full_set
full-power zero = refl
full-power (suc n) = rw (pow-suc, ← full-power n) (omega arith)

pub full-shift : (n : ℕ) → n ≤ most_boxes → 1 * 2 ^ n % 4294967296 - 1 ≡ full_set n
full-shift n h = let m = full-most n h in rw (← full-power n) (omega (arith, m))

module _ (xs ls : List ℕ) (n J L : ℕ) where
  pub fresh-sizes : sizes_form n J L ≡ false
      → FreshMade n J L xs ls xs ls (Answer.Refused Refusal.Sizes)
  unfolding fresh_on
  fresh-sizes h = record {
    after = refused-after xs ls Refusal.Sizes _ (need-not _ _ _ _ _ h);
    form = λ t. absurd (true≠false t);
  }

  abbrev enough : Bool
  enough = leb (site_words n J) (length xs) && leb (links_words n J L) (length ls)

  pub fresh-short : sizes_form n J L ≡ true → enough ≡ false
      → FreshMade n J L xs ls xs ls (Answer.Refused Refusal.Buffer)
  unfolding fresh_on
  fresh-short h e = record {
    after = refused-after xs ls Refusal.Buffer _ (need-met _ _ _ _ _ h ∙ need-not _ _ _ _ _ e);
    form = λ t. absurd (true≠false t);
  }

  -- what a box of the fresh site knows
  abbrev knows : Setting
  knows = record { n = n; j = J; l = L; epoch = 1; present = full_set n; me = 0 }

  -- the general words are written, and then the rows and the links
  module _ (xs0 xs' ls' : List ℕ) (g : setting_at xs0 0 ≡ knows)
      (rows : RowsPut knows (λ b. fresh_box) xs0 xs') (links : LinksPut knows (λ a b. []) ls ls')
    where
      known : setting_at xs' 0 ≡ knows
      known = setting_same xs0 xs' 0 rows.general ∙ g

      boxes : box_in (get_or xs' 0 0) (get_or xs' 1 0) xs' ≡ (λ b. fresh_box)
      boxes = (λ t. box_in (known t).n (known t).j xs') ∙ rows.boxes

      letters : link_in (get_or xs' 0 0) (get_or xs' 1 0) (get_or xs' 2 0) ls' ≡ (λ a b. [])
      letters = (λ t. link_in (known t).n (known t).j (known t).l ls') ∙ links.links

      fresh-site : site_of xs' ls' ≡ fresh n J L
      unfolding fresh site_of
      fresh-site = λ t. record {
        n = (known t).n;
        J = (known t).j;
        L = (known t).l;
        epoch = (known t).epoch;
        present = (known t).present;
        box = boxes t;
        link = letters t;
      }

      by_form : sizes_form n J L ≡ true → memory_form xs' ls' ≡ true
      by_form h =
          form_both xs' ls' (readable-made xs' ls' 0 (rw known rows.lent)
          (rw known links.lent))
          (ap form fresh-site ∙ fresh-form n J L h)

      pub fresh-done : sizes_form n J L ≡ true → enough ≡ true → length xs0 ≡ length xs
          → past_site n J xs0 ≡ past_site n J xs
          → After (fresh_on xs ls n J L) xs ls xs' ls' Answer.Done
      unfolding fresh_on fresh
      fresh-done h e w past =
          let is = need-met _ _ _ _ _ h ∙ need-met _ _ _ _ _ e ∙ no_needs _ _ in
          record {
            answer = ap (λ (r : Outcome). r.answer) (sym is);
            site = fresh-site ∙ ap (λ (r : Outcome). r.next) (sym is);
            kept = λ t. absurd (true≠false (sym t));
            past-site = subst (λ (p : Outcome).
                past_site p.next.n p.next.J xs' ≡ past_site p.next.n p.next.J xs)
                (sym is) (rows.past ∙ past);
            past-links = subst (λ (p : Outcome).
                past_links p.next.n p.next.J p.next.L ls'
                ≡ past_links p.next.n p.next.J p.next.L ls) (sym is) links.past;
            site-words = rows.words ∙ w;
            links-words = links.words;
            readable = λ r. readable-made xs' ls' 0 (rw known rows.lent)
                (rw known links.lent);
          }

  -- what the code has at hand
  abbrev knowing : ℕ → Setting
  knowing w = record { n = n; j = J; l = L; epoch = 1; present = w; me = 0 }

  pub boxes-few : sizes_form n J L ≡ true → n ≤ most_boxes
  boxes-few h = (sizes-says h).few-boxes

  pub rows-room : enough ≡ true → site_words n J ≤ length xs
  rows-room e = (words_say (knowing 0) xs ls e).0

  pub links-room : enough ≡ true → links_words n J L ≤ length ls
  links-room e = (words_say (knowing 0) xs ls e).1

  pub five-room : enough ≡ true → general_words ≤ length xs
  five-room e = omega (arith, rows-room e)

  pub rows-room-put : (w : ℕ) (ys : List ℕ) → ys ≡ setting_put (knowing w) xs → enough ≡ true
      → site_words n J ≤ length ys
  rows-room-put w ys put e = rw (ap length put ∙ setting-length (knowing w) xs) (rows-room e)

  pub fresh-made : (w : ℕ) → w ≡ full_set n → (xs' ls' : List ℕ) → sizes_form n J L ≡ true
      → enough ≡ true
      → (xs0 : List ℕ) → xs0 ≡ setting_put (knowing w) xs
      → RowsPut (knowing w) (λ b. fresh_box) xs0 xs'
      → LinksPut (knowing w) (λ a b. []) ls ls' → FreshMade n J L xs ls xs' ls' Answer.Done
  fresh-made w e xs' ls' h g xs0 put rows links =
      let known = ap (λ (ys : List ℕ). setting_at ys 0) put ∙ setting-put (knowing w) xs
      (five-room g) ∙ ap knowing e in
      let rows' = subst (λ v. RowsPut (knowing v) (λ b. fresh_box) xs0 xs') e rows in
      let links' = subst (λ v. LinksPut (knowing v) (λ a b. []) ls ls') e links in
      record {
        after = fresh-done xs0 xs' ls' known rows' links' h g
            (ap length put ∙ setting-length (knowing w) xs)
            (ap (past_site n J) put ∙ setting-past (knowing w) xs (n * row_width J));
        form = λ t. by_form xs0 xs' ls' known rows' links' h;
      }
