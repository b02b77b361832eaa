-- Each call by the function that serves it; what it leaves is by form.
use Prim.Native.Nat.{ℕ}
use mathlib.Core.Path.{◌≡◌}
use mathlib.Core.List.{List, tail}
use native.Mathlib.Omega.{arith}
use borrow.Fn.Kinds.{GoodsP}
use contract.Lifetimes.{Lfts}
use Rattle.rules.specs.Step.{step}
use Rattle.rules.specs.declared.model.Answer.{Answer}
use Rattle.rules.specs.declared.model.Call.{Call}
use Rattle.laws.specs.Frames.{CallFits}
use Rattle.memory.specs.Memory.{site_of}
use Rattle.site.specs.Entries.{After, FormedStep}
use Rattle.site.proofs.Once.{formed}
use Rattle.site.proofs.entries.step_formed.Lts as lts
use Rattle.site.proofs.entries.step_formed.Goals.{Start}
use Rattle.site.proofs.entries.step_formed.Goals as goal

-- The frame numbers of an offer are numbers of 32 bits.
frames : (κs : Lfts 2) (d : Call) → GoodsP κs (tail (tail lts.ps)) (d, tt) → CallFits d
frames κs (Call.Elect c) g = tt
frames κs (Call.Recover c) g = tt
frames κs (Call.Collect c) g = tt
frames κs (Call.Ready c) g = tt
frames κs (Call.Offer c l r) g = (omega arith, omega arith)
frames κs (Call.Propose c) g = tt
frames κs (Call.Agree c) g = tt
frames κs (Call.Finish c) g = tt
frames κs (Call.Heard c) g = tt
frames κs (Call.Trim c k) g = tt
frames κs (Call.Stop c) g = tt
frames κs (Call.Return c) g = tt
frames κs (Call.Timeout c) g = tt
frames κs (Call.Lose a b) g = tt
frames κs (Call.Repeat a b) g = tt
frames κs (Call.Deliver a b) g = tt

fits : (c : Start) → CallFits c.args.call
fits c = frames c.lifetimes c.args.call c.well_formed.1.1

-- The call is d, and what came of d is known.
made : (c : Start) {d : Call} {ys ms : List ℕ} {a : Answer} → c.args.call ≡ d
    → After (step (site_of c.args.site.now c.args.links.now) d)
    c.args.site.now c.args.links.now ys ms a
    → FormedStep c.args.call c.args.site.now c.args.links.now ys ms a
made c e after = formed c.args.call (fits c) c.requires (rw e after)

pub acting-requires-in-Offer : goal.acting-requires-in-Offer
acting-requires-in-Offer c = record {
  links_value = c.requires;
  act_fits = rw c.in-Offer.is at (fits (goal.at.acting-requires-in-Offer c).Start);
}

pub returns-in-Elect : goal.returns-in-Elect
returns-in-Elect c =
    made (goal.at.returns-in-Elect c).Start
    c.in-Elect.is c.elect.ensures

pub returns-in-Recover : goal.returns-in-Recover
unfolding step
returns-in-Recover c =
    made (goal.at.returns-in-Recover c).Start
    c.in-Recover.is c.acting.ensures

pub returns-in-Collect : goal.returns-in-Collect
unfolding step
returns-in-Collect c =
    made (goal.at.returns-in-Collect c).Start
    c.in-Collect.is c.acting-in-Collect.ensures

pub returns-in-Ready : goal.returns-in-Ready
unfolding step
returns-in-Ready c =
    made (goal.at.returns-in-Ready c).Start
    c.in-Ready.is c.acting-in-Ready.ensures

pub returns-in-Offer : goal.returns-in-Offer
unfolding step
returns-in-Offer c =
    made (goal.at.returns-in-Offer c).Start
    c.in-Offer.is c.acting-in-Offer.ensures

pub returns-in-Propose : goal.returns-in-Propose
unfolding step
returns-in-Propose c =
    made (goal.at.returns-in-Propose c).Start
    c.in-Propose.is c.acting-in-Propose.ensures

pub returns-in-Agree : goal.returns-in-Agree
unfolding step
returns-in-Agree c =
    made (goal.at.returns-in-Agree c).Start
    c.in-Agree.is c.acting-in-Agree.ensures

pub returns-in-Finish : goal.returns-in-Finish
unfolding step
returns-in-Finish c =
    made (goal.at.returns-in-Finish c).Start
    c.in-Finish.is c.acting-in-Finish.ensures

pub returns-in-Heard : goal.returns-in-Heard
unfolding step
returns-in-Heard c =
    made (goal.at.returns-in-Heard c).Start
    c.in-Heard.is c.acting-in-Heard.ensures

pub returns-in-Trim : goal.returns-in-Trim
unfolding step
returns-in-Trim c =
    made (goal.at.returns-in-Trim c).Start
    c.in-Trim.is c.acting-in-Trim.ensures

pub returns-in-Stop : goal.returns-in-Stop
returns-in-Stop c =
    made (goal.at.returns-in-Stop c).Start
    c.in-Stop.is c.change.ensures

pub returns-in-Return : goal.returns-in-Return
returns-in-Return c =
    made (goal.at.returns-in-Return c).Start
    c.in-Return.is c.change-in-Return.ensures

pub returns-in-Timeout : goal.returns-in-Timeout
returns-in-Timeout c =
    made (goal.at.returns-in-Timeout c).Start
    c.in-Timeout.is c.change-in-Timeout.ensures

pub returns-in-Lose : goal.returns-in-Lose
returns-in-Lose c =
    made (goal.at.returns-in-Lose c).Start
    c.in-Lose.is c.on_link.ensures

pub returns-in-Repeat : goal.returns-in-Repeat
returns-in-Repeat c =
    made (goal.at.returns-in-Repeat c).Start
    c.in-Repeat.is c.on_link-in-Repeat.ensures

pub returns-in-Deliver : goal.returns-in-Deliver
returns-in-Deliver c =
    made (goal.at.returns-in-Deliver c).Start
    c.in-Deliver.is c.on_link-in-Deliver.ensures

pub acting-requires : goal.acting-requires
acting-requires c = record {
  links_value = c.requires;
  act_fits = tt;
}

pub acting-requires-in-Collect : goal.acting-requires-in-Collect
acting-requires-in-Collect c = record {
  links_value = c.requires;
  act_fits = tt;
}

pub acting-requires-in-Ready : goal.acting-requires-in-Ready
acting-requires-in-Ready c = record {
  links_value = c.requires;
  act_fits = tt;
}

pub acting-requires-in-Propose : goal.acting-requires-in-Propose
acting-requires-in-Propose c = record {
  links_value = c.requires;
  act_fits = tt;
}

pub acting-requires-in-Agree : goal.acting-requires-in-Agree
acting-requires-in-Agree c = record {
  links_value = c.requires;
  act_fits = tt;
}

pub acting-requires-in-Finish : goal.acting-requires-in-Finish
acting-requires-in-Finish c = record {
  links_value = c.requires;
  act_fits = tt;
}

pub acting-requires-in-Heard : goal.acting-requires-in-Heard
acting-requires-in-Heard c = record {
  links_value = c.requires;
  act_fits = tt;
}

pub acting-requires-in-Trim : goal.acting-requires-in-Trim
acting-requires-in-Trim c = record {
  links_value = c.requires;
  act_fits = tt;
}
