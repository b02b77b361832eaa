-- The head of a link handed over: from what the code knows and leaves to the outcome of Deliver.
use Prim.Native.Nat.{ℕ}
use mathlib.Core.Path.{◌≡◌, sym, ap, ◌∙◌, subst}
use mathlib.Core.Bool.{Bool, true, false}
use mathlib.Core.List.{List, ◌∷◌, tail}
use native.Mathlib.Omega.{arith}
use lib.ListN.{get_or}
use Rattle.words.specs.Rows.{part}
use Rattle.rules.specs.Answers.{is_refusal, is_accepted}
use Rattle.rules.specs.Box.{Letter, mail, turn_of, turned}
use Rattle.rules.specs.Form.{form_letter}
use Rattle.rules.specs.Site.{Outcome, posted, popped, room}
use Rattle.rules.specs.Step.{by_turn, step}
use Rattle.rules.specs.declared.model.Answer.{Answer}
use Rattle.rules.specs.declared.model.Call.{Call}
use Rattle.rules.specs.declared.model.Refusal.{Refusal}
use Rattle.rules.specs.declared.model.Setting.{Setting}
use Rattle.rules.specs.declared.model.Turn.{Turn}
use Rattle.laws.proofs.Logic.{In, All, All-head}
use Rattle.laws.proofs.FormLaws.{FormedLetter, letter-made, is-link, box-is}
use Rattle.laws.specs.Receivers.{NotTo}
use Rattle.laws.proofs.Receivers.{Foreign}
use Rattle.letter.specs.Place.{letter_at, place_form}
use Rattle.link.specs.Link.{place_width}
use Rattle.memory.specs.Memory.{site_of}
use Rattle.memory.specs.After.{setting_at, boxes_of, links_of, LinksPut, HeadStands}
use Rattle.memory.proofs.LentLaws.{form-readable}
use Rattle.site.specs.Carry.{room_out, less_head, TakesMail, HasHead, Carried}
use Rattle.site.specs.Entries.{After}
use Rattle.site.proofs.AfterLaws.{turn-refused, turn-discarded, turn-full, turn-played}
use Rattle.site.proofs.CallLaws.{deliver-turn}
use Rattle.site.proofs.KnownLaws.{formed, AtBox}
use Rattle.site.proofs.TurnKnown.{turn_is, apart, room-told, carries, carried-known}
use Rattle.site.proofs.MailKnown.{link-is, room-base}

module _ {s : Setting} {a : ℕ} {xs ls : List ℕ} (w : HasHead s a xs ls) where
  abbrev at : Setting
  at = setting_at xs s.me

  -- box me
  pub me-at : AtBox xs ls s.me s
  me-at =
      let l : (In a (get_or xs 0 0)) × (In s.me (get_or xs 0 0)) × (a ≡ s.me → ⊥) =
      is-link (link-is w) in
      record { form = w.know.form; setting = w.know.setting; box = box-is l.1 }

  module _ {p : ℕ} (h : HeadStands s a ls p) where
    abbrev y : Letter
    y = letter_at (part ls p (place_width s.j))

    head : links_of at ls a s.me ≡ y ∷ tail (links_of at ls a s.me)
    head =
        let e = w.know.setting in
        (λ k. links_of (sym e k) ls a s.me) ∙ h.letters
        ∙ (λ k. y ∷ tail (links_of (e k) ls a s.me))

    letter-formed : FormedLetter at.j y
    unfolding site_of
    letter-formed = let l = is-link (link-is w) in
        All-head (subst (All (FormedLetter at.j)) head
        ((formed xs ls w.know.form).links a s.me l.0 l.1 l.2).letters)

    pub over-place : place_form s.j (part ls p (place_width s.j)) ≡ true
    over-place = h.form (subst (λ (k : Setting). form_letter k.j y ≡ true)
        (sym w.know.setting) (letter-made letter-formed))

    foreign : Foreign at (mail a y)
    unfolding site_of
    foreign =
        let l = is-link (link-is w) in
        ((l.0.0, omega (arith, l.0.1, (formed xs ls w.know.form).sizes.few-boxes)), l.2)

    -- the turn t that it makes
    module _ {t : Turn} (q : t ≡ turn_of s (boxes_of s xs s.me) (mail a y)) where
      abbrev outcome : Outcome
      outcome = step (site_of xs ls) (Call.Deliver a s.me)

      turns : outcome
          ≡ by_turn (site_of xs ls) (popped (site_of xs ls) a s.me) s.me t y.records
      unfolding site_of
      turns =
          deliver-turn xs ls w.know.form a s.me (link-is w) y _ head
          ∙ ap (λ (u : Turn). by_turn (site_of xs ls) (popped (site_of xs ls) a s.me) s.me u
          y.records) (sym (turn_is me-at (mail a y) q))

      pub over-refused : is_refusal t.answer ≡ true → After outcome xs ls xs ls t.answer
      unfolding site_of
      over-refused r = turn-refused xs ls s.me (less_head at a ls) t y.records _ turns r

      pub over-discarded : {ls' : List ℕ} → is_refusal t.answer ≡ false
          → is_accepted t.answer ≡ false
          → LinksPut s (less_head s a ls) ls ls' → After outcome xs ls xs ls' t.answer
      unfolding site_of
      over-discarded {ls'} r k put =
          turn-discarded xs ls s.me (less_head at a ls) t y.records _ turns r k
          (form-readable xs ls w.know.form)
          (subst (λ (z : Setting). LinksPut z (less_head z a ls) ls ls') w.know.setting put)

      pub over-apart : NotTo s.me t.out
      over-apart = apart me-at (mail a y) q foreign

      room-known : {b : Bool} → room_out s ls t.out ≡ b
          → room (popped (site_of xs ls) a s.me) s.me t.out ≡ b
      room-known r =
          sym (room-base xs ls a s.me (link-is w) t.out) ∙ room-told me-at t.out r

      pub over-full : is_accepted t.answer ≡ true → room_out s ls t.out ≡ false
          → After outcome xs ls xs ls (Answer.Refused Refusal.Link)
      unfolding site_of
      over-full k r =
          turn-full xs ls s.me (less_head at a ls) t y.records _ turns k (room-known r)

      pub over-takes : room_out s ls t.out ≡ true → TakesMail s a p xs ls t
      over-takes r = let l = is-link (link-is w) in record {
        link = w.link;
        head = h;
        carries = carries me-at (mail a y) q (l.0, l.2, letter-formed) foreign r;
      }

      pub over-played : {xs' ls' : List ℕ} → is_accepted t.answer ≡ true
          → room_out s ls t.out ≡ true
          → Carried s (turned (boxes_of s xs s.me) t y.records)
          (posted (less_head s a ls) s.me t.out
          (turned (boxes_of s xs s.me) t y.records).records) xs ls xs' ls'
          → After outcome xs ls xs' ls' t.answer
      unfolding site_of
      over-played k r done =
          let d = carried-known me-at (λ z. less_head z a ls) t y.records done in
          turn-played xs ls s.me (less_head at a ls) t y.records _ turns k (room-known r)
          d.rows d.links
