use mathlib.Core.Path.{refl}
use native.Mathlib.Omega.{arith}
use Rattle.salvage.proofs.TableLaws.{sound-is}
use Rattle.salvage.proofs.PartsLaws.{bodies-put}
use Rattle.salvage.proofs.block.put_bodies.Goals as goal

pub overflow_sub-n : goal.overflow_sub-n
overflow_sub-n c =
    let s = sound-is c.args.image.now c.requires.table in
    let l = s.least in
    omega arith

pub overflow_cast-n : goal.overflow_cast-n
overflow_cast-n c =
    let s = sound-is c.args.image.now c.requires.table in
    let l = s.most in
    omega arith

pub body-general-requires : goal.body-general-requires
body-general-requires c =
    let s = sound-is c.args.image.now c.requires.table in
    let l = s.least in
    (c.requires.table, omega arith, omega arith)

pub loads_of-j-requires : goal.loads_of-j-requires
loads_of-j-requires c =
    let s = sound-is c.args.image.now c.requires.table in
    let m = s.most in
    omega arith

pub mails_of-l-requires : goal.mails_of-l-requires
mails_of-l-requires c =
    let s = sound-is c.args.image.now c.requires.table in
    let m = s.most in
    omega arith

pub general_found-requires : goal.general_found-requires
general_found-requires c =
    let s = sound-is c.args.image.now c.requires.table in
    let m = s.most in
    omega arith

pub put_general-p-requires : goal.put_general-p-requires
put_general-p-requires c =
    omega arith

pub put_boxes-p-requires : goal.put_boxes-p-requires
put_boxes-p-requires c =
    let s = sound-is c.args.image.now c.requires.table in
    let m = s.most in record {
      sound = (
        record { table = c.requires.table; boxes = omega arith; few = omega arith },
        c.requires.words,
      );
      at_in_bounds = omega arith;
    }

pub put_mail-requires : goal.put_mail-requires
put_mail-requires c =
    record {
      table = c.requires.table;
      bodies = c.requires.bodies;
      loads = c.loads_of-j.ensures.upper_bound;
      mails = c.mails_of-l.ensures.upper_bound;
      room = omega arith;
    }

pub returns : goal.returns
returns c =
    bodies-put c.args.image.now c.requires.bodies refl c.body-general.ensures
    c.loads_of-j.ensures.value c.mails_of-l.ensures.value
    c.general_found.ensures c.put_general-p.ensures
    c.put_boxes-p.ensures c.put_mail.ensures
