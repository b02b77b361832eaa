-- The boxes up to b have their letter.
use native.Mathlib.Omega.{arith}
use Rattle.rules.specs.Site.{posted}
use mathlib.Core.Path.{◌≡◌}
use Prim.Native.Nat.{◌+◌, ◌-◌}
use Rattle.laws.proofs.FormLaws.{box-is}
use Rattle.memory.proofs.SendLaws.{sent-none, sent-room, sent-more, sent-all}
use Rattle.memory.proofs.SendLaws.{sendable}
use Rattle.memory.proofs.links.send_all.Goals as goal

pub loop-b-preserved : goal.loop-b-preserved
loop-b-preserved c =
    let here : c.loop-b.b - 1 + 1 ≡ c.loop-b.b = omega arith in
    let next : c.loop-b.b + 1 - 1 ≡ c.loop-b.b - 1 + 1 = omega arith in
    rw next (sent-more c.loop-b.invariant (omega arith) (rw here c.send_to.ensures))

pub returns : goal.returns
unfolding posted
returns c =
    sent-all c.loop-b.invariant (omega arith) c.requires.boxes

pub returns-2 : goal.returns-2
unfolding posted
returns-2 c =
    let here : c.loop-b.b - 1 + 1 ≡ c.loop-b.b = omega arith in
    sent-all (sent-more c.loop-b.invariant (omega arith) (rw here c.send_to.ensures)) (omega arith)
    c.requires.boxes

pub loop-b-init : goal.loop-b-init
loop-b-init c = sent-none c.requires.lent

pub send_to-requires : goal.send_to-requires
send_to-requires c =
    let here : c.loop-b.b - 1 + 1 ≡ c.loop-b.b = omega arith in
    record {
      lent = c.loop-b.invariant.put.lent;
      me = c.requires.me;
      box = box-is {n = c.args.s.n} {c = c.loop-b.b} (omega arith, omega arith);
      other = c.requires.other;
      room = rw (← here) (sent-room c.loop-b.invariant (omega arith) c.requires.room);
      letter = sendable c.args.s.j c.args.m c.args.records.now c.requires.letter;
    }
