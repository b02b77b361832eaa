-- `store::store_site` meets its contract: the general words, then the boxes, then the mail.
use mathlib.Core.Path.{◌≡◌, refl, ◌∙◌}
use mathlib.Core.Bool.{true}
use Prim.Native.Nat.{ℕ, ◌-◌, ◌≤◌, ◌<◌}
use native.Mathlib.Omega.{arith}
use mathlib.Core.List.{List, ◌++◌}
use lib.ListN.{length, drop, get_or, length-append, length-drop, get_or-append}
use lib.Seq.{length-take-le}
use Rattle.words.specs.Rows.{part}
use Rattle.words.proofs.PartLaws.{length_part}
use Rattle.rules.specs.Sizes.{sizes_form}
use Rattle.laws.proofs.FormLaws.{sizes-says}
use Rattle.memory.specs.Memory.{general_words}
use Rattle.memory.proofs.SizeLaws.{link-sizes}
use Rattle.image.proofs.GeneralLaws.{GeneralRead, general-lent, setting-read}
use Rattle.store.proofs.SiteLaws.{general-there, general-room, sizes-has, boxes-has}
use Rattle.store.proofs.SiteLaws.{links-has, rows-room, links-room, site-stored}
use Rattle.store.proofs.store_site.Goals.{After-get_words-p, After-setting_of-s, Start}
use Rattle.store.proofs.store_site.Goals as goal

-- the general words, and that there are rows behind them
general : (c : Start) → general_words ≤ length c.args.site.now
general c = general-room c.requires.has c.requires.room_for

-- where the general words are in the site's
abbrev old : (c : After-get_words-p) → List ℕ
old c = c.args.site.now

abbrev read : (c : After-get_words-p) → List ℕ
read c = c.get_words-p.new.dst

abbrev put : (c : After-get_words-p) → List ℕ
put c = (read c) ++ drop general_words (old c)

general-get_words_p : (c : After-get_words-p) → general_words ≤ length c.args.site.now
general-get_words_p c = general-room c.requires.has c.requires.room_for

five : (c : After-get_words-p) → length (read c) ≡ general_words
five c = c.get_words-p.auto.dst ∙ length-take-le general_words (old c) (general-get_words_p c)

long : (c : After-get_words-p) → length (put c) ≡ length (old c)
long c =
    length-append (read c) (drop general_words (old c))
    ∙ omega (arith, (five c), length-drop general_words (old c), general-get_words_p c)

front : (c : After-get_words-p) → (i : ℕ) → i < general_words → get_or (put c) i 0
    ≡ get_or (read c) i 0
front c i h = get_or-append (read c) (drop general_words (old c)) 0 i (omega (arith, (five c)))

enough : (c : After-get_words-p) → general_words ≤ length (put c)
enough c = omega (arith, (long c), general-get_words_p c)

-- the rows behind them
behind : (c : After-get_words-p)
    → length (part (put c) general_words (length (old c) - general_words))
    ≡ length (old c) - general_words
behind c = length_part general_words (length (old c) - general_words) (put c) (omega (
  arith,
  (long c),
  (enough c),
))

abbrev read-setting_of_s : (c : After-setting_of-s) → List ℕ
read-setting_of_s c = c.get_words-p.new.dst

general-setting_of_s : (c : After-setting_of-s) → general_words ≤ length c.args.site.now
general-setting_of_s c = general-room c.requires.has c.requires.room_for

abbrev old-setting_of_s : (c : After-setting_of-s) → List ℕ
old-setting_of_s c = c.args.site.now

five-setting_of_s : (c : After-setting_of-s) → length (read-setting_of_s c) ≡ general_words
five-setting_of_s c = c.get_words-p.auto.dst ∙ length-take-le general_words (old-setting_of_s c)
    (general-setting_of_s c)

abbrev put-setting_of_s : (c : After-setting_of-s) → List ℕ
put-setting_of_s c = (read-setting_of_s c) ++ drop general_words (old-setting_of_s c)

long-setting_of_s : (c : After-setting_of-s) → length (put-setting_of_s c)
    ≡ length (old-setting_of_s c)
long-setting_of_s c =
    length-append (read-setting_of_s c) (drop general_words (old-setting_of_s c))
    ∙ omega (
      arith,
      (five-setting_of_s c),
      length-drop general_words (old-setting_of_s c),
      general-setting_of_s c,
    )

enough-setting_of_s : (c : After-setting_of-s) → general_words ≤ length (put-setting_of_s c)
enough-setting_of_s c = omega (arith, (long-setting_of_s c), general-setting_of_s c)

front-setting_of_s : (c : After-setting_of-s) → (i : ℕ) → i < general_words
    → get_or (put-setting_of_s c) i 0 ≡ get_or (read-setting_of_s c) i 0
front-setting_of_s c i h =
    get_or-append (read-setting_of_s c) (drop general_words (old-setting_of_s c)) 0 i (omega (
      arith,
      (five-setting_of_s c),
    ))

-- where the sizes are read from them
said : (c : After-setting_of-s) → GeneralRead c.args.src.now c.args.at c.get_words-p.result
    (read-setting_of_s c) c.setting_of-s.result.n c.setting_of-s.result.j c.setting_of-s.result.l
said c =
    setting-read (five-setting_of_s c) c.get_words-p.ensures (put-setting_of_s c)
    (enough-setting_of_s c) (front-setting_of_s c)
    c.setting_of-s.result c.setting_of-s.ensures

sizes : (c : After-setting_of-s) → sizes_form c.setting_of-s.result.n c.setting_of-s.result.j
    c.setting_of-s.result.l ≡ true
sizes c = sizes-has (said c) c.requires.has

pub get_words-p-requires : goal.get_words-p-requires
get_words-p-requires c =
    let n = length-take-le general_words c.args.site.now
    (general (goal.at.get_words-p-requires c).Start) in
    (omega (arith, general-there c.requires.has), omega arith)

pub setting_of-s-requires : goal.setting_of-s-requires
setting_of-s-requires c =
    general-lent (five (goal.at.setting_of-s-requires c).After-get_words-p) c.get_words-p.ensures
    (put (goal.at.setting_of-s-requires c).After-get_words-p)
    (enough (goal.at.setting_of-s-requires c).After-get_words-p)
    (front (goal.at.setting_of-s-requires c).After-get_words-p)

pub slice_bounds-store_boxes-end : goal.slice_bounds-store_boxes-end
slice_bounds-store_boxes-end c =
    omega (
      arith,
      long (goal.at.slice_bounds-store_boxes-end c).After-get_words-p,
      general (goal.at.slice_bounds-store_boxes-end c).Start,
    )

pub store_boxes-q-requires : goal.store_boxes-q-requires
store_boxes-q-requires c =
    let z = sizes-says (sizes (goal.at.store_boxes-q-requires c).After-setting_of-s) in record {
      n_le_most_boxes = (z.few-boxes, z.few-loads);
      j_in_bounds = omega (
        arith,
        behind (goal.at.store_boxes-q-requires c).After-get_words-p,
        rows-room (said (goal.at.store_boxes-q-requires c).After-setting_of-s) c.requires.has
            c.requires.room_for,
      );
      has = boxes-has (said (goal.at.store_boxes-q-requires c).After-setting_of-s) c.requires.has;
    }

pub store_links-requires : goal.store_links-requires
store_links-requires c =
    let count = c.link_count-m.ensures in record {
      link_sizes =
          link-sizes (sizes-says (sizes (goal.at.store_links-requires c).After-setting_of-s));
      l_in_bounds = links-room (said (goal.at.store_links-requires c).After-setting_of-s)
          c.requires.has c.requires.room_for count;
      has = links-has (said (goal.at.store_links-requires c).After-setting_of-s) c.requires.has _
          count c.store_boxes-q.ensures;
    }

pub returns : goal.returns
returns c =
    site-stored (said (goal.at.returns c).After-setting_of-s) c.link_count-m.ensures
    c.requires.room_for refl (general (goal.at.returns c).Start)
    (c.store_boxes-q.auto.rows ∙ behind (goal.at.returns c).After-get_words-p)
    c.store_links.auto.links
    c.store_boxes-q.ensures c.store_links.ensures

pub slice_bounds-get_words-end : goal.slice_bounds-get_words-end
slice_bounds-get_words-end c = omega (arith, general (goal.at.slice_bounds-get_words-end c).Start)

pub link_count-m-requires : goal.link_count-m-requires
link_count-m-requires c = sizes (goal.at.link_count-m-requires c).After-setting_of-s

pub slice_bounds-store_boxes-count : goal.slice_bounds-store_boxes-count
slice_bounds-store_boxes-count c =
    omega (arith, general (goal.at.slice_bounds-store_boxes-count c).Start)

pub slice_bounds-store_boxes-start : goal.slice_bounds-store_boxes-start
slice_bounds-store_boxes-start c =
    omega (arith, general (goal.at.slice_bounds-store_boxes-start c).Start)
