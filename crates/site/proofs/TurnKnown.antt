-- What the code knows of a turn at a box of words by form, and what the turn comes to.
use Prim.Native.Nat.{ℕ, ◌≤◌}
use mathlib.Core.Path.{◌≡◌, refl, sym, ap, ◌∙◌, subst}
use mathlib.Core.Bool.{Bool, true, false}
use mathlib.Core.List.{List, []}
use native.Mathlib.Omega.{arith}
use Rattle.rules.specs.Sizes.{most_boxes}
use Rattle.rules.specs.Answers.{is_accepted, is_refusal}
use Rattle.rules.specs.Box.{Letter, Event, own, turn_of, turned, brought}
use Rattle.rules.specs.Site.{is_box, posted, room}
use Rattle.rules.specs.Step.{by_turn, acting}
use Rattle.rules.specs.declared.model.Act.{Act}
use Rattle.rules.specs.declared.model.Answer.{Answer}
use Rattle.rules.specs.declared.model.Out.{Out}
use Rattle.rules.specs.declared.model.Refusal.{Refusal}
use Rattle.rules.specs.declared.model.Setting.{Setting}
use Rattle.rules.specs.declared.model.Turn.{Turn}
use Rattle.laws.proofs.Logic.{Or, left, right, In, decide}
use Rattle.laws.proofs.FormLaws.{FormedBox, box-made, is-box}
use Rattle.laws.specs.Frames.{ActFits}
use Rattle.laws.specs.Receivers.{NotTo}
use Rattle.laws.proofs.Receivers.{Foreign, turn-apart}
use Rattle.laws.proofs.TurnForm.{Fits, EventFits, turn-fits}
use Rattle.memory.specs.Memory.{site_of}
use Rattle.memory.specs.After.{setting_at, boxes_of, links_of, BoxLent}
use Rattle.memory.proofs.LentLaws.{form-readable}
use Rattle.site.specs.Carry.{room_out, Carries, Carried}
use Rattle.site.specs.Entries.{After}
use Rattle.site.proofs.AfterLaws.{turn-refused, turn-discarded, turn-full, turn-played}
use Rattle.site.proofs.AfterLaws.{links-same}
use Rattle.site.proofs.CallLaws.{acting-turn}
use Rattle.site.proofs.CarryLaws.{out-form}
use Rattle.site.proofs.KnownLaws.{formed, rows-lent, links-lent, AtBox, knows}

module _ {xs ls : List ℕ} {c : ℕ} {s : Setting} (k : AtBox xs ls c s) where
  abbrev at : Setting
  at = setting_at xs c

  box-formed : FormedBox at.n at.j c (boxes_of at xs c)
  unfolding site_of
  box-formed = (formed xs ls k.form).boxes c (is-box k.box)

  few : at.n ≤ most_boxes
  unfolding site_of
  few = (formed xs ls k.form).sizes.few-boxes

  me-few : In c most_boxes
  me-few = let h : In c at.n = is-box k.box in (h.0, omega (arith, h.1, few))

  pub me-is : is_box s.n s.me ≡ true
  me-is = rw k.setting k.box

  pub box-lent : BoxLent s xs
  box-lent = record {
    rows = rows-lent (knows k);
    me = me-is;
    form = rw k.setting (box-made box-formed);
  }

  -- there is room for what is sent
  room-is : (out : Out) → room_out at ls out ≡ room (site_of xs ls) c out
  unfolding site_of room
  room-is Out.Nothing = refl
  room-is (Out.To set m) = refl

  pub room-told : (out : Out) {b : Bool} → room_out s ls out ≡ b → room (site_of xs ls) c out ≡ b
  room-told out h = sym (room-is out) ∙ (rw k.setting at h)

  -- what was carried out by s was carried out by what the words say
  pub carried-known : (link : Setting → ℕ → ℕ → List Letter) (t : Turn) (ms : List ℕ)
      {xs' ls' : List ℕ}
      → Carried s (turned (boxes_of s xs s.me) t ms)
      (posted (link s) s.me t.out (turned (boxes_of s xs s.me) t ms).records) xs ls xs' ls'
      → Carried at (turned (boxes_of at xs c) t ms)
      (posted (link at) c t.out (turned (boxes_of at xs c) t ms).records) xs ls xs' ls'
  carried-known link t ms {xs'} {ls'} h =
      subst
      (λ (k : Setting). Carried k (turned (boxes_of k xs k.me) t ms)
      (posted (link k) k.me t.out (turned (boxes_of k xs k.me) t ms).records)
      xs ls xs' ls')
      k.setting h

  -- the turn t of an event
  module _ (v : Event) {t : Turn} (p : t ≡ turn_of s (boxes_of s xs s.me) v) where
    pub turn_is : t ≡ turn_of at (boxes_of at xs c) v
    turn_is = p ∙ (λ i. turn_of (k.setting i) (boxes_of (k.setting i) xs (k.setting i).me) v)

    pub apart : Foreign at v → NotTo s.me t.out
    apart h = rw (k.setting, turn_is) (turn-apart at (boxes_of at xs c) v me-few h)

    pub carries : EventFits at v → Foreign at v → room_out s ls t.out ≡ true
        → Carries s xs ls (brought v) t
    unfolding site_of
    carries h g room =
        let fits : Fits s.n s.j s.me (boxes_of s xs s.me) (brought v) t =
        rw (k.setting, turn_is) (turn-fits at (boxes_of at xs c) v box-formed few (is-box k.box)
        (formed xs ls k.form).present h)
        in
        record {
          box = box-lent;
          links = links-lent (knows k);
          form = box-made fits.box;
          book = fits.book;
          out = out-form s.n s.j _ t.out fits.out;
          apart = apart g;
          room = room;
        }

  -- ---- a leader's step

  module _ (a : Act) {t : Turn} (p : t ≡ turn_of s (boxes_of s xs s.me) (own a)) where
    acts : acting (site_of xs ls) c a ≡ by_turn (site_of xs ls) (site_of xs ls) c t []
    unfolding site_of
    acts =
        acting-turn xs ls k.form c a k.box
        ∙ ap (λ (u : Turn). by_turn (site_of xs ls) (site_of xs ls) c u [])
        (sym (turn_is (own a) p))

    -- it changes nothing
    pub acting-stays : is_accepted t.answer ≡ false
        → After (acting (site_of xs ls) c a) xs ls xs ls t.answer
    unfolding site_of
    acting-stays h = go (decide (is_refusal t.answer))
      where
        go : Or (is_refusal t.answer ≡ true) (is_refusal t.answer ≡ false)
            → After (acting (site_of xs ls) c a) xs ls xs ls t.answer
        go (left r) = turn-refused xs ls c (links_of at ls) t [] _ acts r
        go (right r) =
            let ok = form-readable xs ls k.form in
            turn-discarded xs ls c (links_of at ls) t [] _ acts r h ok (links-same xs ls c ok)

    pub acting-full : is_accepted t.answer ≡ true → room_out s ls t.out ≡ false
        → After (acting (site_of xs ls) c a) xs ls xs ls (Answer.Refused Refusal.Link)
    unfolding site_of
    acting-full h r = turn-full xs ls c (links_of at ls) t [] _ acts h (room-told t.out r)

    pub acting-carries : ActFits a → room_out s ls t.out ≡ true → Carries s xs ls [] t
    acting-carries f r = carries (own a) p f tt r

    pub acting-played : {xs' ls' : List ℕ} → is_accepted t.answer ≡ true
        → room_out s ls t.out ≡ true
        → Carried s (turned (boxes_of s xs s.me) t [])
        (posted (links_of s ls) s.me t.out (turned (boxes_of s xs s.me) t []).records)
        xs ls xs' ls'
        → After (acting (site_of xs ls) c a) xs ls xs' ls' t.answer
    unfolding site_of
    acting-played h r done =
        let d = carried-known (λ s. links_of s ls) t [] done in
        turn-played xs ls c (links_of at ls) t [] _ acts h (room-told t.out r) d.rows
        d.links
