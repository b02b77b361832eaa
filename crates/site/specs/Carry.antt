-- A turn carried out in the words.
use Rattle.std.specs.Prelude.{ℕ, ◌+◌, ◌<◌, ◌≡◌, Bool, true, length}
use mathlib.Core.List.{List, [], tail}
use Rattle.rules.specs.Every.{every}
use Rattle.rules.specs.Sets.{set_form}
use Rattle.rules.specs.Box.{Box, Letter, BookFits, letter_of, turned}
use Rattle.rules.specs.Form.{form_box, form_letter}
use Rattle.rules.specs.Site.{is_link, upd}
use Rattle.rules.specs.declared.model.Answer.{Answer}
use Rattle.rules.specs.declared.model.Verdict.{Verdict}
use Rattle.rules.specs.declared.model.Out.{Out}
use Rattle.rules.specs.declared.model.Setting.{Setting}
use Rattle.rules.specs.declared.model.Turn.{Turn}
use Rattle.laws.specs.Receivers.{NotTo}
use Rattle.words.specs.Rows.{part}
use Rattle.letter.specs.Place.{letter_at}
use Rattle.link.specs.Link.{place_width}
use Rattle.memory.specs.Memory.{memory_form}
use Rattle.site.specs.General.{general_put}
use Rattle.memory.specs.After.{setting_at, boxes_of, links_of, links_by, room_for, elected_boxes}
use Rattle.memory.specs.After.{LinksLent, BoxLent, RowsPut, LinksPut, HeadStands, Sends}

-- every link that is sent on has room
abbrev pub room_out : Setting → List ℕ → Out → Bool
room_out s ls Out.Nothing = true
room_out s ls (Out.To set m) = every s.n (room_for s ls set)

-- what is sent, with its records of rs, goes to boxes of the site and is by form
abbrev pub OutForm : ℕ → ℕ → List ℕ → Out → Type 0
OutForm n J rs Out.Nothing = Unit {0}
OutForm n J rs (Out.To set m) = (set_form n set ≡ true) × (form_letter J (letter_of m rs) ≡ true)

-- box me can carry out the turn t, by a mail with the records ms
pub record Carries (s : Setting) (xs ls ms : List ℕ) (t : Turn) : Type 0 where
  pub box : BoxLent s xs
  pub links : LinksLent s ls
  pub form : form_box s.n s.j s.me (turned (boxes_of s xs s.me) t ms) ≡ true
  pub book : BookFits s.j (boxes_of s xs s.me).records ms t.book
  pub out : OutForm s.n s.j (turned (boxes_of s xs s.me) t ms).records t.out
  pub apart : NotTo s.me t.out
  pub room : room_out s ls t.out ≡ true

-- box me is x now, and the links are f
pub record Carried (s : Setting) (x : Box) (f : ℕ → ℕ → List Letter) (xs ls xs' ls' : List ℕ) : Type
    0 where
  pub rows : RowsPut s (upd (boxes_of s xs) s.me x) xs xs'
  pub links : LinksPut s f ls ls'

-- what is sent, with its records of rs, can go onto the links
abbrev pub Posts : Setting → List ℕ → Out → List ℕ → Type 0
Posts s ls Out.Nothing rs = LinksLent s ls
Posts s ls (Out.To set m) rs = Sends s ls set m rs

-- the links without the head from a to me
abbrev pub less_head : Setting → ℕ → List ℕ → ℕ → ℕ → List Letter
less_head s a ls = links_by tail s a s.me ls

-- box me can carry out the turn t by the mail at p, the head of the link from a
pub record TakesMail (s : Setting) (a p : ℕ) (xs ls : List ℕ) (t : Turn) : Type 0 where
  pub link : is_link s.n a s.me ≡ true
  pub head : HeadStands s a ls p
  pub carries : Carries s xs ls (letter_at (part ls p (place_width s.j))).records t

-- s is what box me knows of words by form
pub record Knows (s : Setting) (xs ls : List ℕ) : Type 0 where
  pub form : memory_form xs ls ≡ true
  pub setting : s ≡ setting_at xs s.me

-- the same, and the link from a to me holds a mail
pub record HasHead (s : Setting) (a : ℕ) (xs ls : List ℕ) : Type 0 where
  pub know : Knows s xs ls
  pub link : is_link s.n a s.me ≡ true
  pub some : 0 < length (links_of s ls a s.me)

-- a verdict carried out: the rows are elected, the links empty, the epoch has risen; or all stays
abbrev pub ElectIs : Verdict → Setting → List ℕ → List ℕ → List ℕ → List ℕ → Answer → Type 0
ElectIs Verdict.Go s xs ls xs' ls' a =
    (a ≡ Answer.Done)
    × ((zs : List ℕ)
    × RowsPut s (elected_boxes s s.me (boxes_of s xs)) xs zs
    × LinksPut s (λ x y. []) ls ls'
    × (xs' ≡ general_put (s.epoch + 1) s.present zs))
ElectIs (Verdict.Discard why) s xs ls xs' ls' a = (a ≡ Answer.Discarded why)
    × ((xs' ≡ xs) × (ls' ≡ ls))
ElectIs (Verdict.Refuse why) s xs ls xs' ls' a = (a ≡ Answer.Refused why)
    × ((xs' ≡ xs) × (ls' ≡ ls))
