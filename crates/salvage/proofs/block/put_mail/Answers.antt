use native.Mathlib.Omega.{arith}
use Rattle.salvage.proofs.TableLaws.{sound-is}
use Rattle.salvage.proofs.PartsLaws.{mail-put}
use Rattle.salvage.proofs.block.put_mail.Goals as goal

pub overflow_sub-n : goal.overflow_sub-n
overflow_sub-n c =
    let s = sound-is c.args.image.now c.requires.table in
    let l = s.least in
    omega arith

pub overflow_cast-n : goal.overflow_cast-n
overflow_cast-n c =
    let s = sound-is c.args.image.now c.requires.table in
    let l = s.most in
    omega arith

pub overflow_cast-count : goal.overflow_cast-count
overflow_cast-count c =
    let s = sound-is c.args.image.now c.requires.table in
    let l = s.most in
    omega arith

pub body-requires : goal.body-requires
body-requires c =
    let s = sound-is c.args.image.now c.requires.table in
    let l = s.least in
    (c.requires.table, omega arith, omega arith)

pub mail_found-f-requires : goal.mail_found-f-requires
mail_found-f-requires c =
    let s = sound-is c.args.image.now c.requires.table in
    let m = s.most in
    (omega arith, c.requires.mails)

pub returns : goal.returns
returns c =
    mail-put c.args.image.now c.args.j c.args.l c.requires.bodies
    c.body.ensures c.mail_found-f.ensures c.word.ensures
    c.put_mails.ensures
