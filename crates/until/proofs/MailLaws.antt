-- The first mail in the words is the first mail of the site.
use Prim.Native.Nat.{ℕ}
use mathlib.Core.Path.{◌≡◌, refl, sym, ap, ◌∙◌}
use mathlib.Core.Bool.{Bool, true, false, not, ◌&&◌}
use mathlib.Core.List.{List}
use lib.Dec.{ltb}
use lib.ListN.{length}
use borrow.Author.Tests.{eq-eqb, ne_eqb}
use Rattle.rules.specs.Pick.{pick_true, pick-false}
use Rattle.rules.specs.Site.{is_box, is_link}
use Rattle.rules.specs.declared.model.Call.{Call}
use Rattle.rules.specs.declared.model.Setting.{Setting}
use Rattle.laws.proofs.Logic.{and_both}
use Rattle.laws.proofs.FormLaws.{box-is}
use Rattle.wait.specs.Run.{holds_mail, receiver_of, sender_of}
use Rattle.std.specs.Prelude.{Some, None}
use Rattle.memory.specs.Memory.{site_of}
use Rattle.memory.specs.After.{setting_at, links_of}
use Rattle.until.specs.Turns.{mail_on, receiver_in, sender_in, mail_turn}
use Rattle.until.proofs.FirstLaws.{first-in}

-- ---- one link

module _ (s : Setting) (ls : List ℕ) (a b : ℕ) where
  pub no-link : a ≡ b → false ≡ mail_on s ls a b
  no-link e = rw (eq-eqb a b e) refl

  pub is-other : is_box s.n a ≡ true → is_box s.n b ≡ true → (a ≡ b → ⊥)
      → is_link s.n a b ≡ true
  is-other p q e = and_both (and_both p q) (ap not (ne_eqb a b e))

  pub link-mail : {k : ℕ} → (a ≡ b → ⊥) → k ≡ length (links_of s ls a b)
      → ltb 0 k ≡ mail_on s ls a b
  link-mail e q =
      ap (ltb 0) q
      ∙ ap (λ (t : Bool). not t && ltb 0 (length (links_of s ls a b))) (sym (ne_eqb a b e))

-- ---- all links

module _ {s : Setting} (xs ls : List ℕ) (c : ℕ) (known : s ≡ setting_at xs c) where
  pub sender-is : sender_in s ls ≡ sender_of (site_of xs ls)
  unfolding sender_of receiver_of holds_mail site_of
  sender-is = ap (λ (t : Setting). sender_in t ls) known

  receiver_is : (a : ℕ) → receiver_in s ls a ≡ receiver_of (site_of xs ls) a
  unfolding receiver_of holds_mail site_of
  receiver_is a = ap (λ (t : Setting). receiver_in t ls a) known

  -- what the code has found
  pub no-mail : {a : ℕ} → a ≡ sender_in s ls → a ≡ 0 → None ≡ mail_turn (site_of xs ls)
  unfolding mail_turn
  no-mail e z = sym (pick_true _ _ _ (eq-eqb _ _ (sym (e ∙ sender-is) ∙ z)))

  pub first-mail : {a b : ℕ} → a ≡ sender_in s ls → (a ≡ 0 → ⊥) → b ≡ receiver_in s ls a
      → Some (Call.Deliver a b) ≡ mail_turn (site_of xs ls)
  unfolding mail_turn
  first-mail {a} {b} e nz f =
      let from : a ≡ sender_of (site_of xs ls) = e ∙ sender-is in
      let to : b ≡ receiver_of (site_of xs ls) a = f ∙ receiver_is a in
      ap (λ (y : ℕ). Some (Call.Deliver a y)) to
      ∙ ap (λ (x : ℕ). Some (Call.Deliver x (receiver_of (site_of xs ls) x))) from
      ∙ sym (pick-false _ _ _ (ne_eqb _ _ (λ z. nz (from ∙ z))))

pub sender-box : (s : Setting) (ls : List ℕ) {a : ℕ} → a ≡ sender_in s ls → (a ≡ 0 → ⊥)
    → is_box s.n a ≡ true
sender-box s ls {a} e nz =
    box-is {n = s.n} {c = a} (rw e (first-in s.n _ (λ z. nz (e ∙ z))).0)
