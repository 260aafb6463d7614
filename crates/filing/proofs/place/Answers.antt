use Rattle.filing.proofs.place.Goals as goal

pub returns-in-Integers : goal.returns-in-Integers
returns-in-Integers c = rw c.in-Integers.is c.locate_one.ensures

pub returns-in-Gaussian : goal.returns-in-Gaussian
returns-in-Gaussian c = rw c.in-Gaussian.is c.locate_one-in-Gaussian.ensures

pub returns-in-Eisenstein : goal.returns-in-Eisenstein
returns-in-Eisenstein c = rw c.in-Eisenstein.is c.locate_one-in-Eisenstein.ensures
