-- Each code is its arm's; past all arms no code is left.
use borrow.Author.Tests.{ne_eqb}
use Rattle.flat.specs.Flat.{node_of}
use native.Mathlib.Omega.{arith}
use Rattle.flat.proofs.decode.NodeFromFlatLine.from.Goals as goal

pub returns-in-1 : goal.returns-in-1
unfolding node_of
returns-in-1 c = rw c.in-1.is

pub returns-in-2 : goal.returns-in-2
unfolding node_of
returns-in-2 c = rw c.in-2.is

pub returns-in-3 : goal.returns-in-3
unfolding node_of
returns-in-3 c = rw c.in-3.is

pub returns-in-4 : goal.returns-in-4
unfolding node_of
returns-in-4 c = rw c.in-4.is

pub returns-in-5 : goal.returns-in-5
unfolding node_of
returns-in-5 c = rw c.in-5.is

pub returns-in-6 : goal.returns-in-6
unfolding node_of
returns-in-6 c = rw c.in-6.is

pub returns-in-7 : goal.returns-in-7
unfolding node_of
returns-in-7 c = rw c.in-7.is

pub returns-in-8 : goal.returns-in-8
unfolding node_of
returns-in-8 c = rw c.in-8.is

pub returns-in-9 : goal.returns-in-9
unfolding node_of
returns-in-9 c = rw c.in-9.is

pub returns-in-10 : goal.returns-in-10
unfolding node_of
returns-in-10 c = rw c.in-10.is

pub returns-in-11 : goal.returns-in-11
unfolding node_of
returns-in-11 c = rw c.in-11.is

pub returns-in-12 : goal.returns-in-12
unfolding node_of
returns-in-12 c = rw c.in-12.is

pub returns-in-13 : goal.returns-in-13
unfolding node_of
returns-in-13 c = rw c.in-13.is

pub returns-in-15 : goal.returns-in-15
unfolding node_of
returns-in-15 c = rw c.in-15.is

pub returns-in-16 : goal.returns-in-16
unfolding node_of
returns-in-16 c = rw c.in-16.is

pub returns-in_default : goal.returns-in_default
unfolding node_of
returns-in_default c =
    simp (ne_eqb c.args.line.code 1 (λ e. omega arith), ne_eqb c.args.line.code 2 (λ e. omega arith), ne_eqb c.args.line.code 3 (λ e. omega arith), ne_eqb c.args.line.code 4 (λ e. omega arith), ne_eqb c.args.line.code 5 (λ e. omega arith), ne_eqb c.args.line.code 6 (λ e. omega arith), ne_eqb c.args.line.code 7 (λ e. omega arith), ne_eqb c.args.line.code 8 (λ e. omega arith), ne_eqb c.args.line.code 9 (λ e. omega arith), ne_eqb c.args.line.code 10 (λ e. omega arith), ne_eqb c.args.line.code 11 (λ e. omega arith), ne_eqb c.args.line.code 12 (λ e. omega arith), ne_eqb c.args.line.code 13 (λ e. omega arith), ne_eqb c.args.line.code 15 (λ e. omega arith), ne_eqb c.args.line.code 16 (λ e. omega arith))
