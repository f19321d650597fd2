-- Each statement of `specs/Demands.antt`, proved. Assumes nothing.
use Rattle.plan.specs.Demands.{CheckRefuses, PartRefuses, ReadsRows, Gives, Parts, AtLeastIs, OneToOne}
use Rattle.plan.proofs.Laws.CheckFirst.{check-first}
use Rattle.plan.proofs.Laws.ShownFirst as shown
use Rattle.plan.proofs.Laws.Rows.{reads-row}
use Rattle.plan.proofs.Laws.Accepted.{given}
use Rattle.plan.proofs.Laws.Operators.{at_least}
use Rattle.plan.proofs.Laws.Answers as answers

pub check-refuses : CheckRefuses
unfolding CheckRefuses
check-refuses = check-first

pub part-refuses : PartRefuses
unfolding PartRefuses
part-refuses = shown.part-refuses

pub reads-rows : ReadsRows
unfolding ReadsRows
reads-rows = reads-row

pub gives : Gives
unfolding Gives
gives = given

pub parts : Parts
unfolding Parts
parts = shown.parted

pub at-least-is : AtLeastIs
unfolding AtLeastIs
at-least-is = at_least

pub one-to-one : OneToOne
one-to-one = answers.one-to-one
