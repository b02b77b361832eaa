-- The records are those of me.
use mathlib.Core.Path.{sym, ap, ◌∙◌, subst}
use mathlib.Core.List.{List}
use Prim.Native.Nat.{ℕ}
use Rattle.rules.specs.Box.{Box}
use Rattle.memory.specs.After.{Sends, links_of, LinksPut}
use Rattle.memory.proofs.RowLaws.{row_room, box-at}
use Rattle.rules.specs.Site.{posted}
use Rattle.rules.specs.declared.model.Out.{Out}
use Rattle.memory.proofs.links.send.Goals as goal

pub records-requires : goal.records-requires
records-requires c =
    rw c.row_of-row.ensures
    (row_room c.args.s c.args.s.me c.args.site.now c.requires.sends.me c.requires.rows_lent)

pub send_all-requires : goal.send_all-requires
send_all-requires c =
    let t = c.args.s in
    let held = c.records.ensures
    ∙ ap (λ (x : Box). x.records)
    (box-at t c.args.s.me c.args.site.now c.requires.sends.me c.row_of-row.ensures)
    in
    subst (λ (rs : List ℕ). Sends t c.args.links.now c.args.set c.args.m rs) (sym held)
    c.requires.sends

pub returns : goal.returns
returns c =
    let t = c.args.s in
    let links = c.args.links.now in
    let held = c.records.ensures
    ∙ ap (λ (x : Box). x.records)
    (box-at t c.args.s.me c.args.site.now c.requires.sends.me c.row_of-row.ensures) in
    subst (λ (rs : List ℕ). LinksPut t
    (posted (links_of t links) c.args.s.me (Out.To c.args.set c.args.m) rs)
    links c.send_all.new.links) held c.send_all.ensures
