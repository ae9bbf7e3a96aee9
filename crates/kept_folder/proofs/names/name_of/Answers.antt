use Rattle.std.proofs.Common.{arith}
use Rattle.kept_folder.proofs.Naming.{name_0, name_1, name_2, name_3, name_4, name_5, name_6, name_7, name_8, name_9, name_10, name_11, name_12, name_13, name_14, name_last}
use Rattle.kept_folder.proofs.names.name_of.Goals as goal

pub returns-in-0 : goal.returns-in-0
returns-in-0 c = name_0 c.args.index c.in-0.is

pub returns-in-1 : goal.returns-in-1
returns-in-1 c = name_1 c.args.index c.in-1.is

pub returns-in-2 : goal.returns-in-2
returns-in-2 c = name_2 c.args.index c.in-2.is

pub returns-in-3 : goal.returns-in-3
returns-in-3 c = name_3 c.args.index c.in-3.is

pub returns-in-4 : goal.returns-in-4
returns-in-4 c = name_4 c.args.index c.in-4.is

pub returns-in-5 : goal.returns-in-5
returns-in-5 c = name_5 c.args.index c.in-5.is

pub returns-in-6 : goal.returns-in-6
returns-in-6 c = name_6 c.args.index c.in-6.is

pub returns-in-7 : goal.returns-in-7
returns-in-7 c = name_7 c.args.index c.in-7.is

pub returns-in-8 : goal.returns-in-8
returns-in-8 c = name_8 c.args.index c.in-8.is

pub returns-in-9 : goal.returns-in-9
returns-in-9 c = name_9 c.args.index c.in-9.is

pub returns-in-10 : goal.returns-in-10
returns-in-10 c = name_10 c.args.index c.in-10.is

pub returns-in-11 : goal.returns-in-11
returns-in-11 c = name_11 c.args.index c.in-11.is

pub returns-in-12 : goal.returns-in-12
returns-in-12 c = name_12 c.args.index c.in-12.is

pub returns-in-13 : goal.returns-in-13
returns-in-13 c = name_13 c.args.index c.in-13.is

pub returns-in-14 : goal.returns-in-14
returns-in-14 c = name_14 c.args.index c.in-14.is

pub returns-in_default : goal.returns-in_default
returns-in_default c = name_last c.args.index (let past = c.in_default in omega (arith, past))
