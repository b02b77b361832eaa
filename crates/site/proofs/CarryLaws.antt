-- A turn carried out: what each part needs, and what the parts come to.
use Prim.Native.Nat.{ℕ}
use mathlib.Core.Path.{◌≡◌, refl, sym, ◌∙◌, subst}
use mathlib.Core.Bool.{Bool, true, false}
use mathlib.Core.List.{List}
use Rattle.rules.specs.Every.{every}
use Rattle.rules.specs.Sets.{has}
use Rattle.rules.specs.Box.{Box, Letter, turned}
use Rattle.rules.specs.Site.{is_box, upd, posted}
use Rattle.rules.specs.declared.model.Mail.{Mail}
use Rattle.rules.specs.declared.model.Out.{Out}
use Rattle.rules.specs.declared.model.Setting.{Setting}
use Rattle.rules.specs.declared.model.Turn.{Turn}
use Rattle.laws.proofs.FormLaws.{letter-made}
use Rattle.laws.proofs.FrameLaws.{upd_same}
use Rattle.laws.specs.Receivers.{NotTo}
use Rattle.laws.proofs.TurnForm.{OutFits}
use Rattle.memory.specs.After.{boxes_of, links_of, room_for, LinksLent, RowsPut}
use Rattle.memory.specs.After.{LinksPut, Sends, Playable}
use Rattle.site.specs.Carry.{room_out, OutForm, Posts, Carries}

-- ---- what is sent, by its case

module _ (s : Setting) (ls : List ℕ) (out : Out) where
  pub not-to : (set : ℕ) (m : Mail) → out ≡ Out.To set m → NotTo s.me out
      → has set s.me ≡ false
  not-to set m e h = rw e at h

  pub room-to : (set : ℕ) (m : Mail) (r : Bool) → out ≡ Out.To set m
      → r ≡ every s.n (room_for s ls set)
      → r ≡ room_out s ls out
  room-to set m r e h = rw e h

  pub room-none : out ≡ Out.Nothing → true ≡ room_out s ls out
  room-none e = rw e refl

  module _ (rs : List ℕ) where
    pub sends : (set : ℕ) (m : Mail) → out ≡ Out.To set m → Posts s ls out rs → Sends s ls set m rs
    sends set m e h = rw e at h

    pub posted-to : (set : ℕ) (m : Mail) (ls' : List ℕ) → out ≡ Out.To set m
        → LinksPut s (posted (links_of s ls) s.me (Out.To set m) rs) ls ls'
        → LinksPut s (posted (links_of s ls) s.me out rs) ls ls'
    posted-to set m ls' e h = rw e h

    pub posted-none : out ≡ Out.Nothing → Posts s ls out rs
        → LinksPut s (posted (links_of s ls) s.me out rs) ls ls
    unfolding posted
    posted-none e h = rw e (record { links = refl; past = refl; words = refl; lent = rw e at h })

pub out-form : (n J : ℕ) (rs : List ℕ) (out : Out) → OutFits n J rs out → OutForm n J rs out
out-form n J rs Out.Nothing fits = tt
out-form n J rs (Out.To set m) fits = (fits.0, letter-made fits.1)

-- what a turn sends can go onto the links
posts : (s : Setting) (ls : List ℕ) (out : Out) (rs : List ℕ) → OutForm s.n s.j rs out
    → NotTo s.me out
    → room_out s ls out ≡ true → LinksLent s ls → is_box s.n s.me ≡ true → Posts s ls out rs
posts s ls Out.Nothing rs good apart room lent me = lent
posts s ls (Out.To set m) rs good apart room lent me = record {
  lent = lent;
  me = me;
  boxes = good.0;
  other = apart;
  room = room;
  letter = good.1;
}

module _ {s : Setting} {xs ls ms : List ℕ} {t : Turn} (can : Carries s xs ls ms t) where
  pub playable : Playable s xs ms t
  playable = record {
    lent = can.box;
    form = can.form;
    book = can.book;
  }

  -- the box after its turn
  abbrev after : Box
  after = turned (boxes_of s xs s.me) t ms

  module _ {xs' : List ℕ} (rows : RowsPut s (upd (boxes_of s xs) s.me after) xs xs') where
    here : boxes_of s xs' s.me ≡ after
    here = (λ k. rows.boxes k s.me) ∙ upd_same (boxes_of s xs) s.me after

    -- other links than those at hand may have lost a mail meanwhile: any that have room
    pub posts-after : (ls1 : List ℕ) → LinksLent s ls1 → room_out s ls1 t.out ≡ true
        → Posts s ls1 t.out (boxes_of s xs' s.me).records
    posts-after ls1 lent room =
        subst (λ (x : Box). Posts s ls1 t.out x.records) (sym here)
        (posts s ls1 t.out after.records can.out can.apart room lent
        can.box.me)

    pub sent-after : (link : ℕ → ℕ → List Letter) (ls1 ls' : List ℕ)
        → LinksPut s (posted link s.me t.out (boxes_of s xs' s.me).records) ls1 ls'
        → LinksPut s (posted link s.me t.out after.records) ls1 ls'
    sent-after link ls1 ls' put =
        subst (λ (x : Box). LinksPut s (posted link s.me t.out x.records) ls1 ls') here put
