-- `reader::read_bodies` meets its contract: room is looked for before a word is stored.
use mathlib.Core.Path.{◌≡◌, refl, sym, ◌∙◌}
use native.Mathlib.Omega.{arith}
use mathlib.Core.List.{List}
use Prim.Native.Nat.{ℕ}
use lib.ListN.{length}
use Rattle.memory.specs.Memory.{general_words}
use Rattle.image.proofs.GeneralLaws.{GeneralRead, general-lent, setting-read}
use Rattle.store.proofs.SiteLaws.{general-there, sizes-has}
use Rattle.reader.specs.Reader.{too_short, done}
use Rattle.reader.proofs.ReadLaws.{room-found, bodies-has, no_room, held-site}
use Rattle.reader.proofs.read_bodies.Goals.{After-get_words, After-setting_of-s}
use Rattle.reader.proofs.read_bodies.Goals as goal

-- where the general words were read
abbrev words : (c : After-get_words) → List ℕ
words c = c.get_words.new.dst

five : (c : After-get_words) → length (words c) ≡ general_words
five c = c.get_words.auto.dst

abbrev words-setting_of_s : (c : After-setting_of-s) → List ℕ
words-setting_of_s c = c.get_words.new.dst

five-setting_of_s : (c : After-setting_of-s) → length (words-setting_of_s c) ≡ general_words
five-setting_of_s c = c.get_words.auto.dst

-- where they say the sizes
said : (c : After-setting_of-s) → GeneralRead c.args.image.now c.args.at
    c.get_words.result (words-setting_of_s c) c.setting_of-s.result.n c.setting_of-s.result.j
    c.setting_of-s.result.l
said c =
    setting-read (five-setting_of_s c) c.get_words.ensures (words-setting_of_s c) (omega (
      arith,
      five-setting_of_s c,
    ))
    (λ i h. refl) c.setting_of-s.result c.setting_of-s.ensures

pub get_words-requires : goal.get_words-requires
get_words-requires c =
    let has = bodies-has c.requires in
    (omega (arith, general-there has), omega arith)

pub setting_of-s-requires : goal.setting_of-s-requires
setting_of-s-requires c =
    general-lent (five (goal.at.setting_of-s-requires c).After-get_words) c.get_words.ensures
    (words (goal.at.setting_of-s-requires c).After-get_words) (omega (
      arith,
      five (goal.at.setting_of-s-requires c).After-get_words,
    ))
    (λ i h. refl)

pub has_words-requires : goal.has_words-requires
has_words-requires c =
    sizes-has (said (goal.at.has_words-requires c).After-setting_of-s) (bodies-has c.requires)

pub store_site-requires : goal.store_site-requires
store_site-requires c = record {
  has = bodies-has c.requires;
  room_for = room-found c.setting_of-s.result c.args.site.now c.args.links.now
      (said (goal.at.store_site-requires c).After-setting_of-s) (sym c.has_words.ensures
      ∙ c.if-has_words.true);
}

pub returns-then-has_words : goal.returns-then-has_words
returns-then-has_words c =
    done (held-site c.requires c.store_site.ensures)

pub returns : goal.returns
returns c =
    let found = c.requires in
    too_short c.requires.site c.requires.by_form c.requires.image
    (no_room found c.setting_of-s.result c.args.site.now c.args.links.now
    (said (goal.at.returns c).After-setting_of-s) (sym c.has_words.ensures ∙ c.if-has_words.false))
