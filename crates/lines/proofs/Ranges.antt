-- Numbers that are read are of 32 bits.
use Prim.Native.Nat.{ℕ}
use mathlib.Core.Path.{◌≡◌, refl, sym}
use mathlib.Core.Bool.{true}
use mathlib.Core.List.{List}
use lib.Dec.{ltb}
use borrow.Author.Tests.{ltb-true}
use Rattle.rules.specs.Every.{each}
use Rattle.rules.specs.declared.model.Call.{Call}
use Rattle.laws.specs.Frames.{CallFits}
use Rattle.laws.proofs.Logic.{and_yes}
use Rattle.lines.specs.Printed.{in_range}
use Rattle.lines.specs.Read.{read_line}
use Rattle.lines.specs.declared.Line.{Line}
use Rattle.lines.proofs.Exact.{exact}

pub none_out : in_range Line.Unreadable ≡ true
unfolding each
none_out = refl

-- a line that was read has numbers in range
pub read-range : (s : List ℕ) {l : Line} → l ≡ read_line s → in_range l ≡ true
read-range s {l} e = go l (sym e)
  where
    go : (k : Line) → read_line s ≡ k → in_range k ≡ true
    go (Line.Site n J L) q = ((exact s (Line.Site n J L) refl).0 q).1
    go (Line.Call d) q = ((exact s (Line.Call d) refl).0 q).1
    go (Line.Holds c k left right) q = ((exact s (Line.Holds c k left right) refl).0 q).1
    go Line.Unreadable q = none_out

-- .. and so has its call
pub call_fits : (d : Call) → in_range (Line.Call d) ≡ true → CallFits d
unfolding each
call_fits (Call.Elect c) e = tt
call_fits (Call.Recover c) e = tt
call_fits (Call.Collect c) e = tt
call_fits (Call.Ready c) e = tt
call_fits (Call.Offer c left right) e =
    let r = (and_yes (ltb c 4294967296) _ e).1 in
    let q = and_yes (ltb left 4294967296) _ r in (
      ltb-true left 4294967296 q.0,
      ltb-true right 4294967296 (and_yes (ltb right 4294967296) true q.1).0,
    )
call_fits (Call.Propose c) e = tt
call_fits (Call.Agree c) e = tt
call_fits (Call.Finish c) e = tt
call_fits (Call.Heard c) e = tt
call_fits (Call.Trim c k) e = tt
call_fits (Call.Stop c) e = tt
call_fits (Call.Return c) e = tt
call_fits (Call.Timeout c) e = tt
call_fits (Call.Lose a b) e = tt
call_fits (Call.Repeat a b) e = tt
call_fits (Call.Deliver a b) e = tt
