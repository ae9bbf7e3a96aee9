mod Codes
