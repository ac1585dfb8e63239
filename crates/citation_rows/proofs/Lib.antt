mod Citing
