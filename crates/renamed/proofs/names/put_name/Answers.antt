-- `renamed::names::put_name` meets its contract.
use lib.ListN.{length}
use Rattle.lines.specs.declared.Word.{Word}
use Rattle.renamed.proofs.NameLaws.{put-room, put-named}
use Rattle.renamed.proofs.names.put_name.Goals as goal

pub put_chosen-requires : goal.put_chosen-requires
put_chosen-requires c =
    put-room c.args.n c.args.at (length c.args.out.now) Word.Site
    c.in-Site.is c.requires

pub put_chosen-requires-in-Elect : goal.put_chosen-requires-in-Elect
put_chosen-requires-in-Elect c =
    put-room c.args.n c.args.at (length c.args.out.now) Word.Elect
    c.in-Elect.is c.requires

pub put_chosen-requires-in-Recover : goal.put_chosen-requires-in-Recover
put_chosen-requires-in-Recover c =
    put-room c.args.n c.args.at (length c.args.out.now) Word.Recover
    c.in-Recover.is c.requires

pub put_chosen-requires-in-Collect : goal.put_chosen-requires-in-Collect
put_chosen-requires-in-Collect c =
    put-room c.args.n c.args.at (length c.args.out.now) Word.Collect
    c.in-Collect.is c.requires

pub put_chosen-requires-in-Ready : goal.put_chosen-requires-in-Ready
put_chosen-requires-in-Ready c =
    put-room c.args.n c.args.at (length c.args.out.now) Word.Ready
    c.in-Ready.is c.requires

pub put_chosen-requires-in-Offer : goal.put_chosen-requires-in-Offer
put_chosen-requires-in-Offer c =
    put-room c.args.n c.args.at (length c.args.out.now) Word.Offer
    c.in-Offer.is c.requires

pub put_chosen-requires-in-Propose : goal.put_chosen-requires-in-Propose
put_chosen-requires-in-Propose c =
    put-room c.args.n c.args.at (length c.args.out.now) Word.Propose
    c.in-Propose.is c.requires

pub put_chosen-requires-in-Agree : goal.put_chosen-requires-in-Agree
put_chosen-requires-in-Agree c =
    put-room c.args.n c.args.at (length c.args.out.now) Word.Agree
    c.in-Agree.is c.requires

pub put_chosen-requires-in-Finish : goal.put_chosen-requires-in-Finish
put_chosen-requires-in-Finish c =
    put-room c.args.n c.args.at (length c.args.out.now) Word.Finish
    c.in-Finish.is c.requires

pub put_chosen-requires-in-Heard : goal.put_chosen-requires-in-Heard
put_chosen-requires-in-Heard c =
    put-room c.args.n c.args.at (length c.args.out.now) Word.Heard
    c.in-Heard.is c.requires

pub put_chosen-requires-in-Trim : goal.put_chosen-requires-in-Trim
put_chosen-requires-in-Trim c =
    put-room c.args.n c.args.at (length c.args.out.now) Word.Trim
    c.in-Trim.is c.requires

pub put_chosen-requires-in-Stop : goal.put_chosen-requires-in-Stop
put_chosen-requires-in-Stop c =
    put-room c.args.n c.args.at (length c.args.out.now) Word.Stop
    c.in-Stop.is c.requires

pub put_chosen-requires-in-Return : goal.put_chosen-requires-in-Return
put_chosen-requires-in-Return c =
    put-room c.args.n c.args.at (length c.args.out.now) Word.Return
    c.in-Return.is c.requires

pub put_chosen-requires-in-Timeout : goal.put_chosen-requires-in-Timeout
put_chosen-requires-in-Timeout c =
    put-room c.args.n c.args.at (length c.args.out.now) Word.Timeout
    c.in-Timeout.is c.requires

pub put_chosen-requires-in-Lose : goal.put_chosen-requires-in-Lose
put_chosen-requires-in-Lose c =
    put-room c.args.n c.args.at (length c.args.out.now) Word.Lose
    c.in-Lose.is c.requires

pub put_chosen-requires-in-Repeat : goal.put_chosen-requires-in-Repeat
put_chosen-requires-in-Repeat c =
    put-room c.args.n c.args.at (length c.args.out.now) Word.Repeat
    c.in-Repeat.is c.requires

pub put_chosen-requires-in-Mail : goal.put_chosen-requires-in-Mail
put_chosen-requires-in-Mail c =
    put-room c.args.n c.args.at (length c.args.out.now) Word.Mail
    c.in-Mail.is c.requires

pub put_chosen-requires-in-Holds : goal.put_chosen-requires-in-Holds
put_chosen-requires-in-Holds c =
    put-room c.args.n c.args.at (length c.args.out.now) Word.Holds
    c.in-Holds.is c.requires

pub put_chosen-requires-in-Other : goal.put_chosen-requires-in-Other
put_chosen-requires-in-Other c =
    put-room c.args.n c.args.at (length c.args.out.now) Word.Other
    c.in-Other.is c.requires

pub returns-in-Site : goal.returns-in-Site
returns-in-Site c =
    put-named c.args.n Word.Site c.in-Site.is
    c.put_chosen.ensures

pub returns-in-Elect : goal.returns-in-Elect
returns-in-Elect c =
    put-named c.args.n Word.Elect c.in-Elect.is
    c.put_chosen-in-Elect.ensures

pub returns-in-Recover : goal.returns-in-Recover
returns-in-Recover c =
    put-named c.args.n Word.Recover c.in-Recover.is
    c.put_chosen-in-Recover.ensures

pub returns-in-Collect : goal.returns-in-Collect
returns-in-Collect c =
    put-named c.args.n Word.Collect c.in-Collect.is
    c.put_chosen-in-Collect.ensures

pub returns-in-Ready : goal.returns-in-Ready
returns-in-Ready c =
    put-named c.args.n Word.Ready c.in-Ready.is
    c.put_chosen-in-Ready.ensures

pub returns-in-Offer : goal.returns-in-Offer
returns-in-Offer c =
    put-named c.args.n Word.Offer c.in-Offer.is
    c.put_chosen-in-Offer.ensures

pub returns-in-Propose : goal.returns-in-Propose
returns-in-Propose c =
    put-named c.args.n Word.Propose c.in-Propose.is
    c.put_chosen-in-Propose.ensures

pub returns-in-Agree : goal.returns-in-Agree
returns-in-Agree c =
    put-named c.args.n Word.Agree c.in-Agree.is
    c.put_chosen-in-Agree.ensures

pub returns-in-Finish : goal.returns-in-Finish
returns-in-Finish c =
    put-named c.args.n Word.Finish c.in-Finish.is
    c.put_chosen-in-Finish.ensures

pub returns-in-Heard : goal.returns-in-Heard
returns-in-Heard c =
    put-named c.args.n Word.Heard c.in-Heard.is
    c.put_chosen-in-Heard.ensures

pub returns-in-Trim : goal.returns-in-Trim
returns-in-Trim c =
    put-named c.args.n Word.Trim c.in-Trim.is
    c.put_chosen-in-Trim.ensures

pub returns-in-Stop : goal.returns-in-Stop
returns-in-Stop c =
    put-named c.args.n Word.Stop c.in-Stop.is
    c.put_chosen-in-Stop.ensures

pub returns-in-Return : goal.returns-in-Return
returns-in-Return c =
    put-named c.args.n Word.Return c.in-Return.is
    c.put_chosen-in-Return.ensures

pub returns-in-Timeout : goal.returns-in-Timeout
returns-in-Timeout c =
    put-named c.args.n Word.Timeout c.in-Timeout.is
    c.put_chosen-in-Timeout.ensures

pub returns-in-Lose : goal.returns-in-Lose
returns-in-Lose c =
    put-named c.args.n Word.Lose c.in-Lose.is
    c.put_chosen-in-Lose.ensures

pub returns-in-Repeat : goal.returns-in-Repeat
returns-in-Repeat c =
    put-named c.args.n Word.Repeat c.in-Repeat.is
    c.put_chosen-in-Repeat.ensures

pub returns-in-Mail : goal.returns-in-Mail
returns-in-Mail c =
    put-named c.args.n Word.Mail c.in-Mail.is
    c.put_chosen-in-Mail.ensures

pub returns-in-Holds : goal.returns-in-Holds
returns-in-Holds c =
    put-named c.args.n Word.Holds c.in-Holds.is
    c.put_chosen-in-Holds.ensures

pub returns-in-Other : goal.returns-in-Other
returns-in-Other c =
    put-named c.args.n Word.Other c.in-Other.is
    c.put_chosen-in-Other.ensures
