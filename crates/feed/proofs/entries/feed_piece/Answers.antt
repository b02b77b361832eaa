use mathlib.Core.Path.{◌≡◌, sym, ◌∙◌}
use mathlib.Core.Bool.{true}
use lib.ListN.{length}
use Rattle.feed.specs.State.{formed}
use Rattle.feed.specs.Entries.{has_room}
use Rattle.feed.proofs.EntryLaws.{not-formed, no_room, suits, well_fed}
use Rattle.feed.proofs.entries.feed_piece.Goals.{Else-not-has_room, Else-not-is_formed}
use Rattle.feed.proofs.entries.feed_piece.Goals as goal

-- the words and the room suit the state
form : (c : Else-not-is_formed) → formed c.args.f.stage c.args.site.now c.args.links.now ≡ true
form c = sym c.is_formed.ensures ∙ c.if-not-is_formed.false

room : (c : Else-not-has_room) → has_room (length c.args.site.now) (length c.args.links.now)
    (length c.args.out.now) ≡ true
room c = sym c.has_room.ensures ∙ c.if-not-has_room.false

pub returns-then-not-is_formed : goal.returns-then-not-is_formed
returns-then-not-is_formed c =
    not-formed c.args.f _ _ _ _
    (sym c.is_formed.ensures ∙ c.if-not-is_formed.true)

pub returns-then-not-has_room : goal.returns-then-not-has_room
returns-then-not-has_room c =
    no_room c.args.f _ _ _ _ (form (goal.at.returns-then-not-has_room c).Else-not-is_formed)
    (sym c.has_room.ensures ∙ c.if-not-has_room.true)

pub feed_formed-requires : goal.feed_formed-requires
feed_formed-requires c =
    suits c.args.f c.args.piece.now _ _ c.args.out.now
    (form (goal.at.feed_formed-requires c).Else-not-is_formed)
    (room (goal.at.feed_formed-requires c).Else-not-has_room)

pub returns : goal.returns
returns c =
    well_fed c.args.f _ _ _ _ _ _ _ _ (form (goal.at.returns c).Else-not-is_formed)
    (room (goal.at.returns c).Else-not-has_room)
    c.feed_formed.ensures
